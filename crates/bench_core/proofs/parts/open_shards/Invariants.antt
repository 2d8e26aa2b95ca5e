use Rattle.std.proofs.Common.{◌≡◌}
use Rattle.bench_core.specs.Starting.{AreStanding, shards_at_start}
use Rattle.bench_core.proofs.parts.open_shards.Given as goal

abbrev pub invariant-loop-number : goal.invariant-loop-number
invariant-loop-number l = (l.shards.items ≡ shards_at_start l.peers l.number) × AreStanding l.peers l.number
