use Rattle.std.proofs.Common.{◌≡◌, map, take}
use Rattle.bench_parts.specs.Views.{kept_in}
use Rattle.bench_spec.specs.Booked.{booked}
use Rattle.bench_gather.specs.Ordered.{entries_by}
use Rattle.bench_gather.proofs.pages.booked_by.Given as goal

-- what the log so far booked
abbrev pub invariant-loop-at : goal.invariant-loop-at
invariant-loop-at l = l.all.items ≡ booked l.laws (entries_by (map kept_in l.parts) (take l.at-index l.order))
