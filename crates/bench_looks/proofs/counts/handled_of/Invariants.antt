use Rattle.std.proofs.Common.{◌≡◌, ◌≤◌, length, take}
use Rattle.std.specs.Prelude.{filter}
use Rattle.bench_looks.proofs.counts.handled_of.Given as goal

-- those of the first so far
abbrev pub invariant-loop-place : goal.invariant-loop-place
invariant-loop-place l = record {
  count : l.handled ≡ length (filter (λ own. own) (take l.place l.came));
  few : l.handled ≤ l.place;
}
