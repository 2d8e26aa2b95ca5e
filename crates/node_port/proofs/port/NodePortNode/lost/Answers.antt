use Rattle.bench_net.specs.Events.{Lost}
use Rattle.node_port.proofs.SentLemmas.{sent_grows}
use Rattle.node_port.proofs.port.NodePortNode.lost.Goals as goal

-- a step that opens no line
pub returns-in-Ok-lost-clause-grows : goal.returns-in-Ok-lost-clause-grows
returns-in-Ok-lost-clause-grows c =
    sent_grows c.args.self.now.node c.lost.new.self c.args.line c.in-Ok.number Lost c.in-Ok.ensures.ok.0 c.in-Ok.ensures.ok.1
    c.in-Ok-lost.ensures.taken
