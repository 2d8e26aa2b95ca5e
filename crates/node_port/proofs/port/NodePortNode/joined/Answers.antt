use Rattle.node_port.proofs.TurnLemmas.{goes_joined}
use Rattle.node_port.proofs.port.NodePortNode.joined.Goals as goal

pub returns-clause-moved : goal.returns-clause-moved
returns-clause-moved c = goes_joined c.joined.result c.args.self.now.node c.joined.new.self c.joined.ensures.taken c.joined.ensures.none
