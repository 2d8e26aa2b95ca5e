-- What happens on a connection is a step of the bench, or refused as that step is.
use Rattle.std.specs.Prelude.{◌≡◌, ◌^◌, ℕ, Bool, List, [], Option, Some, if◌then◌else◌, length, nat_lt}
use Rattle.bench_item.specs.declared.step.Step.{Step}
use Rattle.bench_item.specs.declared.step.Step.TheVariants as steps
use Rattle.bench_item.specs.declared.step.StepFault.{StepFault}
use Rattle.bench_item.specs.declared.step.StepFault.TheVariants as faults
use Rattle.bench_net.specs.Events.{Event, Came, Lost}
use Rattle.bench_net.specs.declared.refusal.Refusal.{Refusal}
use Rattle.bench_net.specs.declared.refusal.Refusal.TheVariants.{Unknown, Closed, Full, NoMemory}
use Rattle.bench_spec.specs.Lines.{openings}
use Rattle.bench_spec.specs.Taken.{Run, Takes, fault_of, shown}

-- the step of what happens on a line
abbrev pub step_on : ℕ → Event → Step
step_on line (Came piece) = steps.Came line piece
step_on line Lost = steps.Lost line

-- why a line takes nothing, by the fault of the step; a line that waits for no acknowledgement has no use for one
abbrev pub refusal_of : StepFault → Refusal
refusal_of faults.Unknown = Unknown
refusal_of faults.Closed = Closed
refusal_of faults.Nothing = Closed
refusal_of faults.Paused = Closed
refusal_of faults.Full = Full
refusal_of faults.NoMemory = NoMemory

-- what a line takes
abbrev pub TakesOn : Run → ℕ → Event → Run → Type 0
TakesOn old line event new = Takes old new (step_on line event)

-- a number that a line can have; no other line is there
abbrev pub is_number : ℕ → Bool
is_number line = nat_lt line (2 ^ 32)

-- why nothing is taken: the first reason of the step, and want of memory only where there is none
abbrev pub refusal_on : Run → ℕ → Event → Refusal
refusal_on run line event = if is_number line then refusal_of (fault_of run (step_on line event)) else Unknown

-- a connection is accepted, and its line is the last
abbrev pub JoinsAs : Run → (line : ℕ) → Run → Type 0
JoinsAs old line new = Takes old new steps.Joined × (line ≡ length (openings new.log))

-- why it is not taken that the dial of a line was acknowledged
abbrev pub opening_refusal : Run → ℕ → Refusal
opening_refusal run line = if is_number line then refusal_of (fault_of run (steps.Dialled line)) else Unknown

-- what a line refuses, and why
abbrev pub RefusesOn : Run → ℕ → Event → Refusal → Type 0
RefusesOn run line event why = why ≡ refusal_on run line event

-- all that a line sent
abbrev pub sent_on : Run → ℕ → Option (List ℕ)
sent_on run line = Some (if is_number line then (shown run).sent_of line else [])
