-- Steps of a bench, one after the other.
use Rattle.std.proofs.Common.{◌≡◌, ◌<◌, ◌+◌, ◌++◌, ◌∷◌, ◌∙◌, List, [], Result, Ok, Err, OnErr, OnOk, ap, arith, length, length-append, refl, subst}
use Rattle.bench_item.specs.declared.step.Step.{Step}
use Rattle.bench_spec.specs.Taken.{Run, Takes, TakesAll}
use Rattle.bench_node.specs.Going.{Goes}

-- a step leaves what the bench was opened with
pub same_settings : (old new : Run) (step : Step) → Takes old new step → new.settings ≡ old.settings
same_settings old new step taken = ap (λ (run : Run). run.settings) taken.grown

all_same : (old new : Run) (steps : List Step) → TakesAll old new steps → new.settings ≡ old.settings
all_same old new [] same = ap (λ (run : Run). run.settings) same
all_same old new (step ∷ steps) taken = all_same taken.0 new steps taken.2 ∙ same_settings old taken.0 step taken.1

-- and so do several
pub goes_same : (old new : Run) → Goes old new → new.settings ≡ old.settings
goes_same old new goes = all_same old new goes.steps goes.taken

-- no step
pub goes_none : (old new : Run) → new ≡ old → Goes old new
goes_none old new same = record { steps = []; taken = same }

-- one
pub goes_one : (old new : Run) (step : Step) → Takes old new step → Goes old new
goes_one old new step taken = record { steps = step ∷ []; taken = (new, taken, refl) }

on_from : (old mid new : Run) (front steps : List Step) → TakesAll old mid front → TakesAll mid new steps → TakesAll old new (front ++ steps)
on_from old mid new [] steps same taken = subst (λ (run : Run). TakesAll run new steps) same taken
on_from old mid new (step ∷ front) steps first taken = (first.0, first.1, on_from first.0 mid new front steps first.2 taken)

-- some, and then more
pub goes_on : (old mid new : Run) → Goes old mid → Goes mid new → Goes old new
goes_on old mid new first then = record {
  steps = first.steps ++ then.steps;
  taken = on_from old mid new first.steps then.steps first.taken then.taken;
}

-- none, of a bench that is as it was
pub goes_refl : (run : Run) → Goes run run
goes_refl run = goes_none run run refl

-- one, or none where it was refused
pub goes_by : {T E : Type 0} (r : Result T E) (old new : Run) (step : Step) → OnOk r (Takes old new step) → OnErr r (new ≡ old) → Goes old new
goes_by (Ok x) old new step ok err = goes_one old new step ok
goes_by (Err e) old new step ok err = goes_none old new err

-- a step adds an entry
pub takes_grow : (old new : Run) (step : Step) → Takes old new step → length old.log < length new.log
takes_grow old new step taken =
    let longer : length new.log ≡ length old.log + 1 = ap (λ (run : Run). length run.log) taken.grown ∙ length-append old.log (taken.entry ∷ []) in
    omega (arith, longer)

pub ruleset going = (goes_refl, goes_on)
