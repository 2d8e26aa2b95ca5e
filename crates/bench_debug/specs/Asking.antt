-- The step that a script asks for, in a world.
use Rattle.std.specs.Prelude.{◌≡◌, option_map, Option, Some, None}
use Rattle.bench_item.specs.declared.step.Step.{Step}
use Rattle.bench_item.specs.declared.step.Step.TheVariants.{Fired}
use Rattle.bench_item.specs.declared.step.StepFault.{StepFault}
use Rattle.bench_item.specs.declared.step.StepFault.TheVariants.{Unknown}
use Rattle.bench_spec.specs.Machines.{number_of}
use Rattle.bench_spec.specs.Refusal.{refusal}
use Rattle.bench_spec.specs.Taken.{Run, Takes}
use Rattle.debug_text.specs.declared.command.CommandFault.{CommandFault}
use Rattle.debug_text.specs.declared.command.CommandFault.TheVariants.{NoMemory, StepRefused}
use Rattle.script_text.specs.declared.asked.ScriptStep.{ScriptStep}
use Rattle.script_text.specs.declared.asked.ScriptStep.TheVariants as asked

-- the step: a timer fires of the machine that has the key, if there is one
abbrev pub step_of : Run → ScriptStep → Option Step
step_of run (asked.Step step) = Some step
step_of run (asked.Fired key generation) =
    option_map (λ machine. Fired machine generation) (number_of run.settings.node run.log key)

-- why a step is refused, memory aside; where no machine has the key it is unknown
abbrev pub refusal_with : Run → Option Step → Option StepFault
refusal_with run None = Some Unknown
refusal_with run (Some step) = refusal run.settings run.log run.paused step

abbrev pub refusal_of : Run → ScriptStep → Option StepFault
refusal_of run ask = refusal_with run (step_of run ask)

-- why it isn't taken: for its first reason, and for memory only where there is none
abbrev pub IsRefusedWith : Option StepFault → CommandFault → Type 0
IsRefusedWith refusal (StepRefused fault) = refusal ≡ Some fault
IsRefusedWith refusal NoMemory = refusal ≡ None
IsRefusedWith refusal fault = ⊥

abbrev pub IsRefused : Run → ScriptStep → CommandFault → Type 0
IsRefused run ask fault = IsRefusedWith (refusal_of run ask) fault

-- what a script asks for was done
pub record TakesAsked (old new : Run) (ask : ScriptStep) : Type 0 where
  pub step : Step
  pub asked : step_of old ask ≡ Some step
  pub takes : Takes old new step
