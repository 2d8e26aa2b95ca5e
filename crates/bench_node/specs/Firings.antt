-- What becomes of timers that are due.
use Rattle.std.specs.Prelude.{◌≡◌, ◌⊎◌, ◌++◌, ◌∷◌, List, [], Some}
use Rattle.bench_item.specs.declared.step.Step.{Step}
use Rattle.bench_item.specs.declared.step.Step.TheVariants as steps
use Rattle.bench_item.specs.declared.step.StepFault.{StepFault}
use Rattle.bench_spec.specs.Refusal.{refusal}
use Rattle.bench_spec.specs.Taken.{Run, Takes}
use Rattle.tick_wheel.specs.declared.timer.Firing.{Firing}

-- the step by which a timer fires
abbrev pub fired : Firing → Step
fired firing = steps.Fired firing.owner firing.generation

-- a timer can't fire
pub record IsHeldBack (old new : Run) (firing : Firing) : Type 0 where
  pub fault : StepFault
  pub refused : refusal old.settings old.log old.paused (fired firing) ≡ Some fault
  pub kept : new ≡ old

-- a timer fired, where it could
abbrev pub Fires : Run → Run → Firing → Type 0
Fires old new firing = Takes old new (fired firing) ⊎ IsHeldBack old new firing

-- timers fired, one after the other, each where it could
pub data FireAll (old : Run) : Run → List Firing → Type 0 where
  nothing : FireAll old old []
  one_more : (mid new : Run) (firings : List Firing) (firing : Firing)
      → FireAll old mid firings → Fires mid new firing → FireAll old new (firings ++ firing ∷ [])
