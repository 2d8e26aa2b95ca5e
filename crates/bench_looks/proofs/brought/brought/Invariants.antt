use Rattle.bench_looks.specs.Before.{before_till}
use Rattle.bench_looks.specs.Brought.{AreBrought}
use Rattle.bench_parts.specs.Views.{kept_in}
use Rattle.bench_looks.proofs.brought.brought.Given as goal

-- the machines that the entries at the places so far bring
abbrev pub invariant-loop-place : goal.invariant-loop-place
invariant-loop-place l =
    AreBrought l.core.settings.node l.shard (before_till l.stamp l.place (kept_in l.part)) l.keys.items
