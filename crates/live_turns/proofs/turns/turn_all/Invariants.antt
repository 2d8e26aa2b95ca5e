use Rattle.bench_node.specs.Going.{Goes}
use Rattle.live_turns.proofs.turns.turn_all.Given as goal

-- steps were taken so far, and nothing else
abbrev pub invariant-loop : goal.invariant-loop
invariant-loop g l = Goes l.initial.living.sockets.port.node.node l.living.sockets.port.node.node
