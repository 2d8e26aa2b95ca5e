use Rattle.std.proofs.Common.{rules}
use Rattle.dia_msg.proofs.read.without_fault.Goals as goal

pub returns-in-Some-clause-ok : goal.returns-in-Some-clause-ok
returns-in-Some-clause-ok c = search rules
