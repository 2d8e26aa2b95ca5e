use Rattle.dia_avp.proofs.GroupLaws.{group_fault-some}
use Rattle.dia_avp.proofs.group.group_count.Goals as goal

pub returns-in-Err-clause-refused : goal.returns-in-Err-clause-refused
returns-in-Err-clause-refused c = rw c.fault_in_group.ensures (group_fault-some c.args.octets.now c.args.depth c.in-Err.fault c.in-Err.ensures.fault)
