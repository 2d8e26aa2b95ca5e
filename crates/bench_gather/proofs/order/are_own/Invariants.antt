use Rattle.std.proofs.Common.{◌≡◌, map, take}
use Rattle.bench_parts.specs.Views.{kept_in}
use Rattle.bench_gather.specs.Ordered.{are_own}
use Rattle.bench_gather.proofs.order.are_own.Given as goal

-- whether those so far stand in their own parts
abbrev pub invariant-loop-placed : goal.invariant-loop-placed
invariant-loop-placed l = l.own ≡ are_own l.shards (map kept_in l.parts) (take l.placed-index l.order)
