use Rattle.std.proofs.Common.{◌≡◌, ◌≤◌, map, take}
use Rattle.bench_parts.specs.Views.{kept_in}
use Rattle.bench_gather.specs.Checks.{counts}
use Rattle.bench_gather.specs.Ordered.{entries_by}
use Rattle.bench_gather.proofs.tells.is_done.Given as goal

-- how many were told, lifted and dropped so far
abbrev pub invariant-loop-at : goal.invariant-loop-at
invariant-loop-at l = record {
  told : l.told ≡ (counts l.desk (entries_by (map kept_in l.parts) (take l.at-index l.order))).told;
  lifted : l.lifted ≡ (counts l.desk (entries_by (map kept_in l.parts) (take l.at-index l.order))).lifted;
  dropped : l.dropped ≡ (counts l.desk (entries_by (map kept_in l.parts) (take l.at-index l.order))).dropped;
  few_told : l.told ≤ l.at-index;
  few_lifted : l.lifted ≤ l.at-index;
  few_dropped : l.dropped ≤ l.at-index;
}
