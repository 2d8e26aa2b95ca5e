use Rattle.std.proofs.Common.{◌≡◌}
use Rattle.bench_node.specs.Going.{Goes}
use Rattle.live_turns.proofs.turns.tell_all.Given as goal

-- steps were taken so far, and nothing else
abbrev pub invariant-desks : goal.invariant-desks
invariant-desks g l = Goes l.initial.node l.node × (l.node.settings ≡ l.initial.node.settings)
