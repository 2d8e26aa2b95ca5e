use Rattle.std.proofs.Common.{◌≡◌, ◌++◌}
use Rattle.bench_show.specs.Timers.{timers_to}
use Rattle.bench_show.proofs.timers.put_timers.Given as goal

-- the timers so far were put
abbrev pub invariant-machines : goal.invariant-machines
invariant-machines l = l.out.items ≡ l.initial.out.items ++ timers_to l.core l.machine
