use Rattle.net_sockets.specs.Turns.{Turned}
use Rattle.net_sockets.proofs.sockets.Sockets.run.Given as goal

abbrev pub invariant-loop-turn : goal.invariant-loop-turn
invariant-loop-turn g l = Turned g.N.Node.takes g.N.Node.moves l.initial.self.port.node l.self.port.node
