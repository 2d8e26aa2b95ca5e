-- What of a machine's run was written out.
use Rattle.std.specs.Prelude.{◌≡◌, ℕ, List, ◌++◌, Option, Result, Ok, Err}
use Rattle.base_device.specs.Devices.{HasWriteCause, TakesWhole}
use Rattle.tab_step.specs.declared.machine.Event.{Event}
use Rattle.tab_step.specs.declared.machine.MachineState.{MachineState}
use Rattle.tab_step.specs.declared.machine.Stepped.{Stepped}
use Rattle.tab_walk.specs.Walks.{Printing, RunText}
use Rattle.tab_walk.specs.declared.pour.Halt.{Halt}
use Rattle.tab_walk.specs.declared.pour.Halt.TheVariants.{NoMemory, WriteFault}

-- Of what waited a front was written out.
pub record PutsOut
    {O : Type 0} (contents : O → Option (List ℕ)) (failures idle : O → ℕ) (old new : O) (before after : List ℕ) : Type 0
  where
    pub written : List ℕ
    pub split : before ≡ written ++ after
    pub taken : TakesWhole contents failures idle old new written

-- what waited was written out since memory ran out, or a write fault came
abbrev pub IsHalted :
    {O : Type 0} → (contents : O → Option (List ℕ)) → (failures idle : O → ℕ) → (old new : O) → List ℕ → Halt → Type 0
IsHalted contents failures idle old new out NoMemory = TakesWhole contents failures idle old new out
IsHalted contents failures idle old new out WriteFault = HasWriteCause failures idle old new

-- The text of a run on the events in front was written out.
pub record PoursFront
    {O : Type 0} (contents : O → Option (List ℕ)) (failures idle : O → ℕ)
    (Step : MachineState → Event → Stepped → Type 0) (told : Printing) (start : MachineState) (events : List Event)
    (old new : O) : Type 0 where
  pub front : List Event
  pub back : List Event
  pub text : List ℕ
  pub split : events ≡ front ++ back
  pub run : RunText Step told start front text
  pub taken : TakesWhole contents failures idle old new text

-- The text of a run on all events was written out.
pub record PoursAll
    {O : Type 0} (contents : O → Option (List ℕ)) (failures idle : O → ℕ)
    (Step : MachineState → Event → Stepped → Type 0) (told : Printing) (start : MachineState) (events : List Event)
    (old new : O) : Type 0 where
  pub text : List ℕ
  pub run : RunText Step told start events text
  pub taken : TakesWhole contents failures idle old new text

-- the whole run, or up to where memory ran out, or a write fault came
abbrev pub IsPoured : {O : Type 0} → (contents : O → Option (List ℕ)) → (failures idle : O → ℕ)
    → (Step : MachineState → Event → Stepped → Type 0) → Printing → MachineState → List Event → (old new : O)
    → Result (Unit {0}) Halt → Type 0
IsPoured contents failures idle Step told start events old new (Ok done) =
    PoursAll contents failures idle Step told start events old new
IsPoured contents failures idle Step told start events old new (Err NoMemory) =
    PoursFront contents failures idle Step told start events old new
IsPoured contents failures idle Step told start events old new (Err WriteFault) = HasWriteCause failures idle old new
