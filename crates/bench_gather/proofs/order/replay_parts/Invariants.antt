use Rattle.std.proofs.Common.{◌≡◌, map, take}
use Rattle.bench_parts.specs.Views.{kept_in}
use Rattle.bench_spec.specs.Taken.{with_log}
use Rattle.bench_gather.specs.Ordered.{entries_by}
use Rattle.bench_gather.proofs.order.replay_parts.Given as goal

-- the world of the entries so far
abbrev pub invariant-loop-at : goal.invariant-loop-at
invariant-loop-at l = l.core ≡ with_log l.fn.core (entries_by (map kept_in l.parts) (take l.at-index l.order))
