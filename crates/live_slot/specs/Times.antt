-- The timers behind their lock.
use Rattle.std.specs.Prelude.{◌≡◌, ◌&&◌, ◌||◌, ℕ, Bool, not, [], Some, is_some}
use Rattle.bench_desk.specs.declared.fault.CarryFault.{CarryFault}
use Rattle.bench_desk.specs.declared.fault.CarryFault.TheVariants as faults
use Rattle.live_parts.specs.Clocks.{AreDue, ClockView, lift_refusal, or_full, passed}

-- the clock was taken to a moment, at which nothing was due
pub record HasPassed (v : ClockView) (moment : ℕ) : Type 0 where
  pub before : ClockView
  pub none_due : AreDue before moment []
  pub part_is : v ≡ passed before moment

-- whether its thread has nothing to do before the next tick
abbrev pub is_idle : ClockView → Bool → Bool → Bool → Bool
is_idle part called ending has_hand = not ending && not called && (has_hand || is_some (lift_refusal part))

-- why a timer does not fire that is armed: for memory, or since the part has as many entries as it may
abbrev pub IsHindered : ClockView → CarryFault → Type 0
IsHindered v faults.NoMemory = Unit {0}
IsHindered v faults.Full = or_full v ≡ Some faults.Full
IsHindered v faults.Nothing = ⊥

-- why the clock does not come to a moment: the same, or something is due there still
abbrev pub StaysDue : ClockView → ℕ → CarryFault → Type 0
StaysDue v moment faults.NoMemory = Unit {0}
StaysDue v moment faults.Full = or_full v ≡ Some faults.Full
StaysDue v moment faults.Nothing = AreDue v moment [] → ⊥
