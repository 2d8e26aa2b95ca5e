use Rattle.std.proofs.Common.{◌≡◌, map}
use Rattle.bench_live.specs.Started.{desks_at_start}
use Rattle.bench_live.proofs.start.open_desks.Given as goal

-- the desks so far
abbrev pub invariant-loop-number : goal.invariant-loop-number
invariant-loop-number g l = map (λ d. d.desk) l.desks.items ≡ desks_at_start l.number l.shards
