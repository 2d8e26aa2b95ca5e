use Rattle.std.proofs.Common.{◌≡◌}
use Rattle.serde_json.specs.View.{members_view}
use Rattle.config_text.specs.Objects.{first_unknown}
use Rattle.config_text.proofs.object.first_unknown.Given as goal

-- of the members that are left the first unknown is that of all
abbrev pub invariant-loop-name : goal.invariant-loop-name
invariant-loop-name l = first_unknown l.shape (members_view l.name-iterator) ≡ first_unknown l.shape (members_view l.members.entries)
