-- Timers fired, one after the other.
use Rattle.std.proofs.Common.{◌≡◌, ◌∙◌, ◌<◌, ◌+◌, ◌++◌, ◌∷◌, [], ℕ, List, Some, ap, get_or, inr, length, subst, sym, take}
use Rattle.std.proofs.lemmas.List.{take_more}
use Rattle.bench_item.specs.declared.step.StepFault.{StepFault}
use Rattle.bench_spec.specs.Refusal.{refusal}
use Rattle.bench_spec.specs.Taken.{Run}
use Rattle.tick_wheel.specs.declared.timer.Firing.{Firing}
use Rattle.bench_node.specs.Firings.{FireAll, Fires, fired, one_more}

-- the next of timers fired
pub fire_next : (old mid new : Run) (firings : List Firing) (i : ℕ) (firing other : Firing) → i < length firings → firing ≡ get_or firings i other
    → FireAll old mid (take i firings) → Fires mid new firing → FireAll old new (take (i + 1) firings)
fire_next old mid new firings i firing other within is all one =
    subst (λ (fs : List Firing). FireAll old new fs)
    (ap (λ (f : Firing). take i firings ++ f ∷ []) is ∙ sym (take_more firings i other within))
    (one_more mid new (take i firings) firing all one)

-- one that can't is held back
pub held_back : (old new : Run) (firing : Firing) (fault : StepFault) → refusal old.settings old.log old.paused (fired firing) ≡ Some fault → new ≡ old
    → Fires old new firing
held_back old new firing fault refused kept = inr (record { fault = fault; refused = refused; kept = kept })
