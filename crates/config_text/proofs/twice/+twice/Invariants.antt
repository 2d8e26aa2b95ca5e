use Rattle.std.proofs.Common.{◌≡◌, ◌+◌, ◌*◌, length}
use Rattle.json.specs.Value.{items_view, members_view}
use Rattle.config_text.specs.Twice.{first_twice, twice_in_items, twice_in_members}
use Rattle.config_text.proofs.twice.+twice.Given as goal

abbrev pub decreases-first_twice : goal.decreases-first_twice
decreases-first_twice l = 3 * l.depth

abbrev pub decreases-twice_inside : goal.decreases-twice_inside
decreases-twice_inside l = 3 * l.depth + 2

abbrev pub decreases-twice_in_items : goal.decreases-twice_in_items
decreases-twice_in_items l = 3 * l.depth + 1

abbrev pub decreases-twice_in_members : goal.decreases-twice_in_members
decreases-twice_in_members l = 3 * l.depth + 1

-- nothing was found before
abbrev pub invariant-twice_in_items-items : goal.invariant-twice_in_items-items
invariant-twice_in_items-items l = twice_in_items (first_twice l.depth) (items_view l.left) ≡ twice_in_items (first_twice l.depth) (items_view l.items)

abbrev pub decreases-twice_in_items-items : goal.decreases-twice_in_items-items
decreases-twice_in_items-items l = length l.left

abbrev pub invariant-twice_in_members-members : goal.invariant-twice_in_members-members
invariant-twice_in_members-members l = twice_in_members (first_twice l.depth) (members_view l.left) ≡ twice_in_members (first_twice l.depth) (members_view l.members)

abbrev pub decreases-twice_in_members-members : goal.decreases-twice_in_members-members
decreases-twice_in_members-members l = length l.left
