-- Why a line was not read.
use Rattle.std.specs.Prelude.{◌≡◌, ℕ, List, ◌≢◌}
use Rattle.bench_item.specs.declared.step.Step.{Step}
use Rattle.step_text.specs.declared.read.StepTextError.{StepTextError}
use Rattle.step_text.specs.declared.read.StepTextError.TheVariants.{BadLine, NoMemory}
use Rattle.step_text.specs.Lines.{line_of}
use Rattle.step_text.specs.Names.{Names}
use Rattle.step_text.specs.Steps.{IsStep}

-- a step as there may be one that has this line
pub record IsStepOf (names : Names) (line : List ℕ) (step : Step) : Type 0 where
  pub is : IsStep names step
  pub has : line_of names step ≡ line

-- the line of a step
pub record IsStepLine (names : Names) (line : List ℕ) : Type 0 where
  pub step : Step
  pub of : IsStepOf names line step

-- the line of no step
abbrev pub IsBadLine : Names → List ℕ → Type 0
IsBadLine names line = (step : Step) → IsStep names step → line_of names step ≢ line

-- no step has that line; or a step has it, and memory was refused
abbrev pub IsFaultOf : Names → List ℕ → StepTextError → Type 0
IsFaultOf names line BadLine = IsBadLine names line
IsFaultOf names line NoMemory = IsStepLine names line
