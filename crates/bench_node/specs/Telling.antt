-- What a desk tells, and what becomes of it.
use Rattle.std.specs.Prelude.{◌≡◌, ◌≢◌, ◌⊎◌, ◌-◌, Bool, true, false, None, Some, length, nat_lt}
use Rattle.bench_item.specs.declared.limit.TheConstants.{MAX_ENTRIES}
use Rattle.bench_item.specs.declared.step.Step.{Step}
use Rattle.bench_item.specs.declared.step.StepFault.{StepFault}
use Rattle.bench_item.specs.declared.step.StepFault.TheVariants.{Full}
use Rattle.live_desk.specs.Desks.{IsDue, LooksInVain, gone_on, next_step}
use Rattle.live_desk.specs.Standing.{standing_of}
use Rattle.live_desk.specs.declared.desk.Desk.{Desk}
use Rattle.bench_node.specs.declared.tell.TheConstants.{KEPT_FREE}
use Rattle.bench_spec.specs.Refusal.{refusal}
use Rattle.bench_spec.specs.Taken.{Run, Takes}

-- so few entries are free that nothing more is told
abbrev pub is_nearly_full : Run → Bool
is_nearly_full run = nat_lt (MAX_ENTRIES - KEPT_FREE) (length run.log)

-- it can't be told, now or later
pub record CantBeTold (run : Run) (step : Step) : Type 0 where
  pub fault : StepFault
  pub refused : refusal run.settings run.log run.paused step ≡ Some fault
  pub not_full : fault ≢ Full

-- what is due was told, or passed over where it can't be; or it waits, since there is no room for it
abbrev pub IsTried : Run → Run → Step → (goes_on : Bool) → Type 0
IsTried old new step true = Takes old new step ⊎ ((new ≡ old) × CantBeTold old step)
IsTried old new step false = (new ≡ old) × (refusal old.settings old.log old.paused step ≡ Some Full)

-- a desk went on behind the text that was due
pub record WentOn (old : Run) (desk : Desk) (new : Run) (desk' : Desk) : Type 0 where
  pub step : Step
  pub due : IsDue (standing_of old) desk step
  pub tried : IsTried old new step true
  pub behind : desk' ≡ gone_on desk

-- there is no room for what is due
pub record HasNoRoom (old : Run) (desk : Desk) : Type 0 where
  pub step : Step
  pub due : IsDue (standing_of old) desk step
  pub full : refusal old.settings old.log old.paused step ≡ Some Full

-- why a desk stays: the log is nearly full, it tells no more, its text's time has not come, or there is no room
abbrev pub IsHeld : Run → Desk → Desk → Type 0
IsHeld old desk desk' =
    (is_nearly_full old ≡ true)
    ⊎ (next_step old.settings.node.laws desk ≡ None)
    ⊎ LooksInVain (standing_of old) desk desk'
    ⊎ HasNoRoom old desk

-- a desk stayed where it is, for such a reason
pub record Stayed (old : Run) (desk : Desk) (new : Run) (desk' : Desk) : Type 0 where
  pub kept : new ≡ old
  pub stayed : (desk' ≡ desk) ⊎ LooksInVain (standing_of old) desk desk'
  pub held : IsHeld old desk desk'

abbrev pub Tells : Run → Desk → Run → Desk → (went_on : Bool) → Type 0
Tells old desk new desk' true = WentOn old desk new desk'
Tells old desk new desk' false = Stayed old desk new desk'
