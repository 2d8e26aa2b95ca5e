use Rattle.std.proofs.Common.{None}
use Rattle.msg_input.proofs.read.begun.Goals as goal

-- nothing is read yet
pub returns-clause-start : goal.returns-clause-start
returns-clause-start g c = λ meanings. c.in_ok-reading.ensures.start meanings None
