use Rattle.std.proofs.Common.{◌≡◌, ◌++◌}
use Rattle.bench_show.proofs.WhyLemmas.{told_rows}
use Rattle.bench_show.proofs.why.put_guards.Given as goal

-- the rows so far were put
abbrev pub invariant-each : goal.invariant-each
invariant-each l = l.out.items ≡ l.initial.out.items ++ told_rows l.table l.laws l.machine l.event l.number
