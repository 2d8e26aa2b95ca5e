use Rattle.std.proofs.Common.{◌≡◌, ◌++◌, map}
use Rattle.std.specs.List.{range_with_len}
use Rattle.bench_parts.specs.Views.{kept_in}
use Rattle.bench_live.specs.Ended.{kept_by}
use Rattle.bench_live.proofs.lend.lend_desks.Given as goal

-- what was lent before, and the desks so far
abbrev pub invariant-loop-number : goal.invariant-loop-number
invariant-loop-number l = map kept_in l.lent.items ≡ map kept_in l.fn.lent.items ++ map (kept_by l.desks) (range_with_len 0 l.number)
