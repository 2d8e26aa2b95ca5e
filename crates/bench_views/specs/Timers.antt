-- The timers that a wheel holds, and those that a log has armed.
use Rattle.std.specs.Prelude.{◌≡◌, ℕ, List, Option, option_map}
use Rattle.std.specs.FinMap as map
use Rattle.tick_wheel.specs.declared.timer.Armed.{Armed}
use Rattle.tick_wheel.specs.Timers.{ByOwner}
use Rattle.bench_item.specs.declared.entry.Entry.{Entry}
use Rattle.bench_spec.specs.Items.{armed}

-- the generation of a timer, if it is armed
abbrev pub generation_of : Option Armed → Option ℕ
generation_of timer = option_map (λ a. a.generation) timer

-- of each machine the timer has the generation with which the log armed it, and is not armed where the log has it so
abbrev pub IsArmedSo : ByOwner → List Entry → Type 0
IsArmedSo timers log = (machine : ℕ) → generation_of (map.get timers machine) ≡ armed log machine
