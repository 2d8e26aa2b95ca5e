use Rattle.std.proofs.Common.{◌≡◌, List, drop}
use Rattle.dia_avp.specs.declared.avp.Avp.{Avp}
use Rattle.dia_msg.specs.Taken.{missing}
use Rattle.dia_msg.specs.Sorting.{IsSorted}
use Rattle.dia_msg.proofs.sorting.Sorted.missing.Given as goal

-- of the entries that were looked at none is missing
abbrev pub invariant-loop-place : goal.invariant-loop-place
invariant-loop-place l = (list : List Avp) → IsSorted l.format list l.self → missing l.format list ≡ missing (drop l.place l.format) list
