-- What is printed one behind the other, and why a step that was tried was refused.
use Rattle.std.proofs.Common.{◌≡◌, ◌++◌, ◌∷◌, ◌∙◌, ℕ, List, [], Option, Some, None, ap, append-nil, inl, inr, length, refl, suc, sym, zero}
use Rattle.std.specs.Prelude.{map, replicate, unwrap_or}
use Rattle.std.proofs.lemmas.List.{append_assoc, length-map, length-replicate}
use Rattle.std.specs.List.{AllByRecursion as Each}
use Rattle.bench_item.specs.declared.step.Step.{Step}
use Rattle.bench_item.specs.declared.step.Step.TheVariants.{Fired}
use Rattle.bench_item.specs.declared.step.StepFault.{StepFault}
use Rattle.bench_item.specs.declared.step.StepFault.TheVariants.{NoMemory}
use Rattle.bench_spec.specs.Refusal.{refusal}
use Rattle.bench_spec.specs.Machines.{number_of}
use Rattle.bench_spec.specs.Settings.{Settings}
use Rattle.bench_spec.specs.Taken.{Run, Takes, fault_of}
use Rattle.script_text.specs.declared.asked.ScriptStep.TheVariants as asked
use Rattle.script_text.specs.declared.run_line.RunLine.{RunLine}
use Rattle.script_text.specs.declared.run_line.RunLine.TheVariants as runs
use Rattle.tab_law.specs.Books.{Laws}
use Rattle.bench_script.specs.Ran.{Does, Fires, IsRunBy, Prints, Settling, Tries, begun, further}

-- a fault that isn't want of memory is the reason of a refusal
refused_by : (o : Option StepFault) (fault : StepFault) → fault ≡ unwrap_or o NoMemory → (fault ≡ NoMemory → ⊥) → o ≡ Some fault
refused_by None fault is other = absurd (other is)
refused_by (Some first) fault is other = ap Some (sym is)

pub refused_is : (run : Run) (step : Step) (fault : StepFault) → fault ≡ fault_of run step → (fault ≡ NoMemory → ⊥)
    → refusal run.settings run.log run.paused step ≡ Some fault
refused_is run step fault is other = refused_by (refusal run.settings run.log run.paused step) fault is other

-- two texts, one behind the other
pub prints_more : {P Q R : List ℕ → Type 0} {old mid new : List ℕ} → ((text more : List ℕ) → P text → Q more → R (text ++ more))
    → Prints P old mid → Prints Q mid new → Prints R old new
prints_more {old = old} both first then = record {
  text = first.text ++ then.text;
  put = then.put ∙ ap (λ front. front ++ then.text) first.put ∙ append_assoc old first.text then.text;
  does = both first.text then.text first.does then.does;
}

-- and no text
pub prints_nothing : {P : List ℕ → Type 0} (old : List ℕ) → P [] → Prints P old old
prints_nothing old none = record { text = []; put = sym (append-nil old); does = none }

-- a step leaves what the bench was opened with
pub same_settings : (old new : Run) (step : Step) → Takes old new step → new.settings ≡ old.settings
same_settings old new step taken = ap (λ (run : Run). run.settings) taken.grown

pub run_by_same : (old new : Run) (books : List Laws) → IsRunBy old books → old.settings ≡ new.settings → IsRunBy new books
run_by_same old new books by same = record {
  same = by.same ∙ ap (λ (s : Settings). replicate s.node.shards s.node.laws) same;
}

-- of each registry, where they have the laws; and how many there are
pub each-has : {R : Type 0} (book : R → Laws) (rs : List R) (count : ℕ) (laws : Laws) → map book rs ≡ replicate count laws → Each (λ r. book r ≡ laws) rs
each-has book [] count laws same = tt
each-has book (r ∷ rs) zero laws same = absurd cc
each-has book (r ∷ rs) (suc count) laws same = (cc, each-has book rs count laws cc)

pub count-is : {R : Type 0} (book : R → Laws) (rs : List R) (count : ℕ) (laws : Laws) → map book rs ≡ replicate count laws → length rs ≡ count
count-is book rs count laws same = sym (length-map rs book) ∙ ap length same ∙ length-replicate count laws

-- what a line does leaves it too
pub tried_same : (old new : Run) (step : Step) (text : List ℕ) → Tries old step new text → new.settings ≡ old.settings
tried_same old new step text (inl taken) = same_settings old new step taken.takes
tried_same old new step text (inr refused) = ap (λ (run : Run). run.settings) refused.kept

settling_same : (old new : Run) (text : List ℕ) → Settling old new text → new.settings ≡ old.settings
settling_same old new text begun = refl
settling_same old new text (further mid last step front more before next taken) =
    same_settings mid new step taken.takes ∙ settling_same old mid front before

fired_same : (old new : Run) (machine : Option ℕ) (generation : ℕ) (text : List ℕ) → Fires old machine generation new text → new.settings ≡ old.settings
fired_same old new None generation text fired = ap (λ (run : Run). run.settings) fired.0
fired_same old new (Some machine) generation text fired = tried_same old new (Fired machine generation) text fired

pub done_same : (old new : Run) (line : RunLine) (text : List ℕ) → Does old line new text → new.settings ≡ old.settings
done_same old new (runs.Asked (asked.Step step)) text does = tried_same old new step text does
done_same old new (runs.Asked (asked.Fired key generation)) text does =
    fired_same old new (number_of old.settings.node old.log key) generation text does
done_same old new runs.Settle text does = settling_same old new text does.steps
