-- Steps one after the other; and a step, or an entry that is replayed, taken back.
use Rattle.std.proofs.Common.{◌≡◌, List, [], ◌∷◌, ◌++◌, Bool, true, false, length, refl, sym, ◌∙◌, ap, subst}
use Rattle.std.specs.Prelude.{IsFalse, IsTrue}
use Rattle.bench_item.specs.declared.entry.Entry.{Entry}
use Rattle.bench_item.specs.declared.step.Step.{Step}
use Rattle.bench_spec.specs.Taken.{GoesBackTo, Replays, Run, Takes, TakesAll, shown}
use Rattle.bench_spec.proofs.BackLemmas.{back_from_replay, back_from_step}

-- one more step behind others
pub takes-more : (old mid new : Run) (steps : List Step) (step : Step) → TakesAll old mid steps → Takes mid new step → TakesAll old new (steps ++ step ∷ [])
takes-more old mid new [] step all one = (new, subst (λ r. Takes r new step) all one, refl)
takes-more old mid new (first ∷ steps) step all one = (all.0, all.1, takes-more all.0 mid new steps step all.2 one)

-- a log with an entry is not empty
never-empty : (log : List Entry) (e : Entry) → log ++ e ∷ [] ≡ [] → ⊥
never-empty [] e none = absurd cc
never-empty (first ∷ log) e none = absurd cc

-- a step is taken back: there is an entry
pub step-back : (old mid new : Run) (step : Step) (b : Bool) → Takes old mid step → (IsTrue b → GoesBackTo mid new) → (IsFalse b → (mid.log ≡ []) × (new ≡ mid))
    → (new ≡ old) × (shown new ≡ shown old)
step-back old mid new step true taken back none = back_from_step old mid new step taken (back refl)
step-back old mid new step false taken back none =
    absurd (never-empty old.log taken.entry (sym (ap (λ (r : Run). r.log) taken.grown) ∙ (none refl).0))

pub replay-back : (old mid new : Run) (e : Entry) (b : Bool) → Replays old mid e → (IsTrue b → GoesBackTo mid new) → (IsFalse b → (mid.log ≡ []) × (new ≡ mid))
    → (new ≡ old) × (shown new ≡ shown old)
replay-back old mid new e true replayed back none = back_from_replay old mid new e replayed (back refl)
replay-back old mid new e false replayed back none =
    absurd (never-empty old.log e (sym (ap (λ (r : Run). r.log) replayed.grown) ∙ (none refl).0))

-- a list without items
pub none-left : {X : Type 0} (xs : List X) → length xs ≡ 0 → xs ≡ []
none-left [] none = refl
none-left (x ∷ xs) none = absurd cc
