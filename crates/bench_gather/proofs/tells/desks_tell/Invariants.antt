use Rattle.std.proofs.Common.{◌≡◌, ◌+◌, ◌<◌, ℕ, true, map}
use Rattle.bench_parts.specs.Views.{kept_in}
use Rattle.bench_gather.specs.Checks.{are_tells, desk_steps}
use Rattle.bench_gather.proofs.tells.desks_tell.Given as goal

-- the entries of each desk so far are its tells
abbrev pub invariant-loop-desk : goal.invariant-loop-desk
invariant-loop-desk l =
    (desk : ℕ) → desk < l.desk
    → are_tells desk (desk_steps (map kept_in l.parts) (l.shards + 2 + desk) l.order) ≡ true
