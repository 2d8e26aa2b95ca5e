use Rattle.std.proofs.Common.{length, ◌+◌, ◌*◌}
use Rattle.dia_dict.specs.Dictionary.{known}
use Rattle.dia_tree.specs.View.{is_event}
use Rattle.dia_tree.proofs.FaultLemmas.{SoFar}
use Rattle.dia_tree.proofs.check.+fault.Given as goal

abbrev pub decreases-avp_fault : goal.decreases-avp_fault
decreases-avp_fault l = 2 * l.room + 1

abbrev pub decreases-fault_in : goal.decreases-fault_in
decreases-fault_in l = 2 * l.room

-- the faults of all are those of the rest
abbrev pub invariant-fault_in-loop-rest : goal.invariant-fault_in-loop-rest
invariant-fault_in-loop-rest l = SoFar (known l.dictionary) (is_event l.event) l.room l.octets l.count l.rest

abbrev pub decreases-fault_in-loop-rest : goal.decreases-fault_in-loop-rest
decreases-fault_in-loop-rest l = length l.rest
