-- What the lines of a script do on a bench, and what that prints.
use Rattle.std.specs.Prelude.{◌≡◌, ◌⊎◌, ℕ, List, [], ◌∷◌, ◌++◌, replicate, Option, Some, None}
use Rattle.bench_item.specs.declared.step.Step.{Step}
use Rattle.bench_item.specs.declared.step.Step.TheVariants.{Fired}
use Rattle.bench_item.specs.declared.step.StepFault.{StepFault}
use Rattle.bench_item.specs.declared.step.StepFault.TheVariants.{Unknown}
use Rattle.bench_spec.specs.Machines.{number_of}
use Rattle.bench_spec.specs.Refusal.{refusal}
use Rattle.bench_spec.specs.Taken.{Run, Takes}
use Rattle.script_text.specs.declared.asked.ScriptStep.{ScriptStep}
use Rattle.script_text.specs.declared.asked.ScriptStep.TheVariants as asked
use Rattle.script_text.specs.declared.run_line.RunLine.{RunLine}
use Rattle.script_text.specs.declared.run_line.RunLine.TheVariants as runs
use Rattle.tab_law.specs.Books.{Laws}
use Rattle.bench_script.specs.Printed.{refused_text, taken_text}
use Rattle.bench_script.specs.Settled.{next_settled}

-- the laws of the registries that a bench was opened with: its own, for each shard
pub record IsRunBy (run : Run) (books : List Laws) : Type 0 where
  pub same : books ≡ replicate run.settings.node.shards run.settings.node.laws

-- a step was taken, and its entry is told
pub record TakesTold (old : Run) (step : Step) (new : Run) (text : List ℕ) : Type 0 where
  pub takes : Takes old new step
  pub told : text ≡ taken_text new takes.entry

-- a step was refused, nothing changed, and the reason is told
pub record RefusesTold (old : Run) (step : Step) (new : Run) (text : List ℕ) : Type 0 where
  pub fault : StepFault
  pub refused : refusal old.settings old.log old.paused step ≡ Some fault
  pub kept : new ≡ old
  pub told : text ≡ refused_text fault

-- a step was tried
abbrev pub Tries : Run → Step → Run → List ℕ → Type 0
Tries old step new text = TakesTold old step new text ⊎ RefusesTold old step new text

-- a timer was to fire, of the machine of a number; without one it is refused as unknown
abbrev pub Fires : Run → Option ℕ → ℕ → Run → List ℕ → Type 0
Fires old None generation new text = (new ≡ old) × (text ≡ refused_text Unknown)
Fires old (Some machine) generation new text = Tries old (Fired machine generation) new text

-- steps were taken that carry and handle what waits, each the next where it was taken
pub data Settling (old : Run) : Run → List ℕ → Type 0 where
  begun : Settling old old []
  further : (mid new : Run) (step : Step) (text more : List ℕ)
      → Settling old mid text → next_settled mid ≡ Some step → TakesTold mid step new more
      → Settling old new (text ++ more)

-- they were, until none was left
pub record Settles (old new : Run) (text : List ℕ) : Type 0 where
  pub steps : Settling old new text
  pub settled : next_settled new ≡ None

-- what any script can ask for was done
abbrev pub DoesAsked : Run → ScriptStep → Run → List ℕ → Type 0
DoesAsked old (asked.Step step) new text = Tries old step new text
DoesAsked old (asked.Fired key generation) new text =
    Fires old (number_of old.settings.node old.log key) generation new text

-- what a line asks for was done
abbrev pub Does : Run → RunLine → Run → List ℕ → Type 0
Does old (runs.Asked ask) new text = DoesAsked old ask new text
Does old runs.Settle new text = Settles old new text

-- lines were done one after the other, and what each prints stands behind what those before it did
pub data Ran (old : Run) : List RunLine → Run → List ℕ → Type 0 where
  nothing : Ran old [] old []
  one_more : (mid new : Run) (lines : List RunLine) (line : RunLine) (text more : List ℕ)
      → Ran old lines mid text → Does mid line new more
      → Ran old (lines ++ line ∷ []) new (text ++ more)

-- a text of which this holds was put behind what was there
pub record Prints (P : List ℕ → Type 0) (old new : List ℕ) : Type 0 where
  pub text : List ℕ
  pub put : new ≡ old ++ text
  pub does : P text
