use Rattle.std.proofs.Common.{◌≡◌, length}
use Rattle.json.specs.Value.{members_view}
use Rattle.config_text.specs.Twice.{is_named}
use Rattle.config_text.proofs.twice.is_named.Given as goal

-- the members before have other names
abbrev pub invariant-members : goal.invariant-members
invariant-members l = is_named l.name (members_view l.left) ≡ is_named l.name (members_view l.members)

abbrev pub decreases-members : goal.decreases-members
decreases-members l = length l.left
