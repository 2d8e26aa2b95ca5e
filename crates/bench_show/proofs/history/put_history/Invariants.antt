use Rattle.std.proofs.Common.{◌≡◌, ◌++◌}
use Rattle.bench_show.proofs.HistoryLemmas.{told_to}
use Rattle.bench_show.proofs.history.put_history.Given as goal

-- the entries so far were put
abbrev pub invariant-entries : goal.invariant-entries
invariant-entries l = l.out.items ≡ l.initial.out.items ++ told_to l.core l.key l.place
