use Rattle.std.proofs.Common.{◌≡◌, ◌++◌}
use Rattle.bench_show.specs.Queues.{queues_to}
use Rattle.bench_show.proofs.queues.put_each.Given as goal

-- what waits at the sources so far was put
abbrev pub invariant-places : goal.invariant-places
invariant-places l = l.out.items ≡ l.initial.out.items ++ queues_to l.core l.sort l.place
