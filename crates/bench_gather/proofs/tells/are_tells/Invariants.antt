use Rattle.std.proofs.Common.{◌≡◌, map, take, false}
use Rattle.std.specs.Prelude.{fold, Some}
use Rattle.bench_parts.specs.Views.{kept_in}
use Rattle.bench_gather.specs.Checks.{desk_steps, next_tell}
use Rattle.bench_gather.proofs.tells.are_tells.Given as goal

-- whether a tell is open after the steps so far
abbrev pub invariant-loop-at : goal.invariant-loop-at
invariant-loop-at l =
    l.begun
    ≡ fold (next_tell l.desk) (Some false) (desk_steps (map kept_in l.parts) l.part (take l.at-index l.order))
