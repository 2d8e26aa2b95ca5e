use Rattle.std.proofs.Common.{◌≡◌, ◌+◌, drop}
use Rattle.base_times.specs.Percentiles.{reached}
use Rattle.base_times.proofs.times.reached.Given as goal

abbrev pub invariant-loop-place : goal.invariant-loop-place
invariant-loop-place l = reached l.rank l.counts ≡ reached l.left (drop l.place l.counts) + l.place
