use Rattle.std.proofs.Common.{◌≡◌, ◌++◌, length}
use Rattle.bench_spec.specs.Taken.{TakesAll}
use Rattle.bench_world.proofs.world.World.run.Given as goal

-- the steps that were taken, and those that are left
abbrev pub invariant-loop-step : goal.invariant-loop-step
invariant-loop-step g l =
    TakesAll l.fn.self.core l.self.core l.yielded × (l.yielded ++ l.step-iterator.rest.items ≡ l.fn.steps.items)
    × (l.left ≡ length l.step-iterator.rest.items)
