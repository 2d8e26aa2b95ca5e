use Rattle.std.proofs.Common.{◌≡◌, ◌<◌, ◌%◌, take}
use Rattle.bench_item.specs.Keys.{home}
use Rattle.bench_item.specs.declared.shard.TheConstants.{MANY}
use Rattle.bench_item.proofs.shard.shard_of.Given as goal

-- the sum so far leaves what the octets so far do
abbrev pub invariant-loop-octet : goal.invariant-loop-octet
invariant-loop-octet l = (l.sum % l.shards ≡ home l.shards (take l.octet-index l.name)) × (l.sum < MANY)
