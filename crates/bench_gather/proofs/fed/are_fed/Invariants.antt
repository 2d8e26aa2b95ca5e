use Rattle.std.proofs.Common.{◌≡◌, map, take}
use Rattle.std.specs.Prelude.{fold, Some}
use Rattle.bench_parts.specs.Views.{kept_in}
use Rattle.bench_gather.specs.Checks.{meets, steps_of}
use Rattle.bench_gather.specs.Ordered.{entries_by}
use Rattle.bench_gather.proofs.fed.are_fed.Given as goal

-- how many of the list are met so far
abbrev pub invariant-loop-at : goal.invariant-loop-at
invariant-loop-at l =
    l.met ≡ fold (meets l.fed) (Some 0) (steps_of (entries_by (map kept_in l.parts) (take l.at-index l.order)))
