use Rattle.std.proofs.Common.{◌≡◌, map, take}
use Rattle.bench_parts.specs.Views.{kept_in}
use Rattle.bench_live.specs.Ended.{kept_of_shard}
use Rattle.bench_live.proofs.lend.lend_shards.Given as goal

-- the shards so far
abbrev pub invariant-loop-shard : goal.invariant-loop-shard
invariant-loop-shard l = map kept_in l.lent.items ≡ map kept_of_shard (take l.shard-index l.shards)
