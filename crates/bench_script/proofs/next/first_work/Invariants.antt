use Rattle.std.proofs.Common.{◌≡◌, ◌+◌}
use Rattle.std.specs.Prelude.{find}
use Rattle.bench_item.specs.declared.limit.TheConstants.{MAX_SHARDS}
use Rattle.bench_script.specs.Settled.{is_free, works}
use Rattle.bench_script.proofs.next.first_work.Given as goal

-- the first is among the shards that are left
abbrev pub invariant-shards : goal.invariant-shards
invariant-shards l =
    (find (is_free l.core) (works 0 MAX_SHARDS)
    ≡ find (is_free l.core) (works l.shard l.left))
    × (l.shard + l.left ≡ MAX_SHARDS)

-- each turn takes a shard
abbrev pub decreases-shards : goal.decreases-shards
decreases-shards l = l.left
