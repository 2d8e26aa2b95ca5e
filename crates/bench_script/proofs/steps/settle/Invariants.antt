use Rattle.std.proofs.Common.{◌≡◌, ◌-◌, length}
use Rattle.bench_item.specs.declared.limit.TheConstants.{MAX_ENTRIES}
use Rattle.bench_script.specs.Ran.{Prints, Settling}
use Rattle.bench_script.proofs.steps.settle.Given as goal

-- each step so far was the next where it was taken, and is put
abbrev pub invariant-steps : goal.invariant-steps
invariant-steps g l =
    (l.core.settings ≡ l.initial.core.settings)
    × Prints (Settling l.initial.core l.core) l.initial.out.items l.out.items

-- each turn adds an entry
abbrev pub decreases-steps : goal.decreases-steps
decreases-steps g l = MAX_ENTRIES - length l.core.log
