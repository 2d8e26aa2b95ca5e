use Rattle.net_sockets.specs.Turns.{Turned}
use Rattle.net_sockets.proofs.sockets.Sockets.dial_all.Given as goal

abbrev pub invariant-loop : goal.invariant-loop
invariant-loop g l = Turned g.N.Node.takes g.N.Node.moves l.initial.self.port.node l.self.port.node
