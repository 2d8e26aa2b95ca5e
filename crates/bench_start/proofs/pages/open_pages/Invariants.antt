use Rattle.std.proofs.Common.{◌≡◌, map}
use Rattle.std.specs.List.{range_with_len}
use Rattle.bench_open.specs.Given.{opened_as}
use Rattle.bench_start.specs.Starting.{page_at_start}
use Rattle.bench_start.proofs.pages.open_pages.Given as goal

abbrev pub invariant-loop-number : goal.invariant-loop-number
invariant-loop-number l = l.pages.items ≡ map (page_at_start l.count (map opened_as l.accounts)) (range_with_len 0 l.number)
