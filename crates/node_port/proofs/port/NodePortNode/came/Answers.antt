use Rattle.bench_net.specs.Events.{Came}
use Rattle.node_port.proofs.SentLemmas.{sent_grows}
use Rattle.node_port.proofs.port.NodePortNode.came.Goals as goal

-- a step that opens no line
pub returns-in-Ok-came-clause-grows : goal.returns-in-Ok-came-clause-grows
returns-in-Ok-came-clause-grows c =
    sent_grows c.args.self.now.node c.came.new.self c.args.line c.in-Ok.number (Came c.args.piece.now) c.in-Ok.ensures.ok.0 c.in-Ok.ensures.ok.1
    c.in-Ok-came.ensures.taken
