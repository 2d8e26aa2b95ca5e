-- Why a step is refused, by what a world keeps.
use Rattle.std.specs.Prelude.{Bool, false, List, Option, Some, None, find, option_map, if◌then◌else◌}
use Rattle.bench_item.specs.declared.step.StepFault.{StepFault}
use Rattle.bench_item.specs.declared.step.StepFault.TheVariants as step
use Rattle.bench_shard.specs.declared.fault.WorkFault.{WorkFault}
use Rattle.bench_shard.specs.declared.fault.WorkFault.TheVariants as shard
use Rattle.bench_shard.specs.Refusal.{work_refusal}
use Rattle.bench_shard.specs.View.{ShardView, with_paused}

-- the first of the reasons that holds
abbrev pub first_of : List (Bool × StepFault) → Option StepFault
first_of reasons = option_map (λ reason. reason.1) (find (λ reason. reason.0) reasons)

-- a line's fault, or that the log is full
abbrev pub line_fault_or : Option StepFault → Bool → Option StepFault
line_fault_or (Some fault) full = Some fault
line_fault_or None full = if full then Some step.Full else None

-- a shard's fault as one of a step: which page it needs is no fault of a step
abbrev pub work_fault : WorkFault → StepFault
work_fault shard.Paused = step.Paused
work_fault shard.Nothing = step.Nothing
work_fault (shard.NeedsPage page) = step.Nothing
work_fault shard.Full = step.Full
work_fault shard.NoMemory = step.NoMemory

-- a shard's fault, or that the log is full
abbrev pub work_fault_or : Option WorkFault → Bool → Option StepFault
work_fault_or (Some fault) full = Some (work_fault fault)
work_fault_or None full = if full then Some step.Full else None

-- why a shard does not work, if it is there
abbrev pub shard_fault : Option ShardView → Bool → Option StepFault
shard_fault None full = Some step.Unknown
shard_fault (Some v) full = work_fault_or (work_refusal v) full

-- why a shard would not work if it were not paused, if it is there
abbrev pub unpaused_shard_fault : Option ShardView → Bool → Option StepFault
unpaused_shard_fault None full = Some step.Unknown
unpaused_shard_fault (Some v) full = work_fault_or (work_refusal (with_paused v false)) full
