use Rattle.std.proofs.Common.{◌≡◌, drop}
use Rattle.std.specs.List.{list_any}
use Rattle.dia_msg.specs.Faults.{is_same}
use Rattle.dia_msg.proofs.services.has.Given as goal

-- none that was looked at is the group
abbrev pub invariant-loop-other : goal.invariant-loop-other
invariant-loop-other l = list_any (λ g. is_same g l.group) l.groups ≡ list_any (λ g. is_same g l.group) (drop l.other-index l.groups)
