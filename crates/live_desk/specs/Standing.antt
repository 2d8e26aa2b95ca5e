-- What a desk sees of a bench.
use Rattle.std.specs.Prelude.{Option}
use Rattle.bench_item.specs.declared.key.Key.{Key}
use Rattle.bench_spec.specs.Settings.{Settings}
use Rattle.bench_spec.specs.Taken.{Run, shown}
use Rattle.tab_step.specs.declared.machine.MachineState.{MachineState}

-- what a bench was opened with, of which its tables and laws are looked at, and where each machine stands
pub record Standing : Type 0 where
  pub settings : Settings
  pub machine_of : Key → Option MachineState

-- a bench, as its log says
abbrev pub standing_of : Run → Standing
standing_of run = record { settings = run.settings; machine_of = (shown run).machine_of }
