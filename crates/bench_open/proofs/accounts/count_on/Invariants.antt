use Rattle.std.proofs.Common.{◌≡◌, ◌≤◌, length, take}
use Rattle.std.specs.Prelude.{◌==◌, ◌%◌, filter}
use Rattle.bench_open.proofs.accounts.count_on.Given as goal

abbrev pub invariant-loop-other : goal.invariant-loop-other
invariant-loop-other l = (l.count ≡ length (filter (λ other. other.id % l.pages == l.page) (take l.other-index l.past))) × (l.count ≤ l.other-index)
