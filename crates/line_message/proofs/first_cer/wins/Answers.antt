use Rattle.line_message.proofs.GreaterLemmas.{won}
use Rattle.line_message.proofs.first_cer.wins.Goals as goal

pub returns-then-elect : goal.returns-then-elect
returns-then-elect c = rw c.if-elect.true at (won c.args.local.now c.args.remote.now c.elect.result c.elect.ensures)

pub returns-else-elect : goal.returns-else-elect
returns-else-elect c = rw c.if-elect.false at (won c.args.local.now c.args.remote.now c.elect.result c.elect.ensures)
