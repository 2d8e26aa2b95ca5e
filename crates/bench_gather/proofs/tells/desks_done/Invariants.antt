use Rattle.std.proofs.Common.{◌≡◌, ◌<◌, ℕ, true, map}
use Rattle.bench_parts.specs.Views.{kept_in}
use Rattle.bench_gather.specs.Checks.{is_done}
use Rattle.bench_gather.specs.Ordered.{entries_by}
use Rattle.bench_gather.proofs.tells.desks_done.Given as goal

-- nothing that each desk so far told is on its way
abbrev pub invariant-loop-desk : goal.invariant-loop-desk
invariant-loop-desk l =
    (desk : ℕ) → desk < l.desk → is_done desk (entries_by (map kept_in l.parts) l.order) ≡ true
