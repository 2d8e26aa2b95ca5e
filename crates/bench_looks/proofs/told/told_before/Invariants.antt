use Rattle.std.proofs.Common.{◌≡◌}
use Rattle.bench_looks.specs.Before.{before_till}
use Rattle.bench_looks.specs.Tallies.{told_by}
use Rattle.bench_parts.specs.Views.{kept_in}
use Rattle.bench_looks.proofs.told.told_before.Given as goal

-- what it had told by the places so far
abbrev pub invariant-loop-place : goal.invariant-loop-place
invariant-loop-place l =
    l.told.items ≡ told_by l.shards l.shard l.desk (before_till l.stamp l.place (kept_in l.part))
