use Rattle.std.proofs.Common.{◌≡◌}
use Rattle.live_threads.proofs.threads.turn_all.Given as goal

-- its world stands where it stood
abbrev pub invariant-loop : goal.invariant-loop
invariant-loop g l = l.sockets.port.node.run ≡ l.initial.sockets.port.node.run
