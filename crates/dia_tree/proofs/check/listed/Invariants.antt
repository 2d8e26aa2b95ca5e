use Rattle.std.proofs.Common.{length}
use Rattle.dia_dict.specs.Dictionary.{known}
use Rattle.dia_tree.specs.View.{is_event}
use Rattle.dia_tree.proofs.FaultLemmas.{Listed}
use Rattle.dia_tree.proofs.check.listed.Given as goal

-- the AVPs of all are those listed and those of the rest, and the faults are those of the rest
abbrev pub invariant-loop-left : goal.invariant-loop-left
invariant-loop-left g l = Listed (known l.dictionary) (is_event l.event) 5 l.octets l.avps l.left

abbrev pub decreases-loop-left : goal.decreases-loop-left
decreases-loop-left g l = length l.left
