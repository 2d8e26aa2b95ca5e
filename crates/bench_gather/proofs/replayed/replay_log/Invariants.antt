use Rattle.std.proofs.Common.{◌≡◌, take}
use Rattle.bench_spec.specs.Taken.{with_log}
use Rattle.bench_gather.proofs.replayed.replay_log.Given as goal

-- the world of the entries so far
abbrev pub invariant-loop-place : goal.invariant-loop-place
invariant-loop-place l = l.core ≡ with_log l.fn.core (take l.place l.log.entries)
