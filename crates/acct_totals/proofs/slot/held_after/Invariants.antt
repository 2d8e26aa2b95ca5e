use Rattle.std.proofs.Common.{◌≡◌, take, fold}
use Rattle.acct_totals.specs.Slots.{held_by}
use Rattle.acct_totals.proofs.slot.held_after.Given as goal

abbrev pub invariant-loop-slot : goal.invariant-loop-slot
invariant-loop-slot l = l.last ≡ fold (held_by l.group) l.held (take l.slot-index l.earlier)
