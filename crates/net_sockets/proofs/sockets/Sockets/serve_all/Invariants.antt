use Rattle.net_sockets.specs.Turns.{Turned}
use Rattle.net_sockets.proofs.sockets.Sockets.serve_all.Given as goal

abbrev pub invariant-loop-key : goal.invariant-loop-key
invariant-loop-key g l = Turned g.N.Node.takes g.N.Node.moves l.initial.self.port.node l.self.port.node
