-- How a node lives whose shards run in threads, and why it does not.
use Rattle.std.specs.Prelude.{◌==◌, ◌&&◌, ℕ, Option, None, Some, if◌then◌else◌, length, min}
use Rattle.bench_gather.specs.declared.fault.GatherFault.{GatherFault}
use Rattle.bench_gather.specs.declared.fault.GatherFault.TheVariants as gathering
use Rattle.bench_item.specs.declared.limit.TheConstants.{MAX_SHARDS}
use Rattle.bench_live.specs.declared.fault.StartFault.{StartFault}
use Rattle.bench_live.specs.declared.fault.StartFault.TheVariants as starting
use Rattle.bench_open.specs.declared.config.Config.{Config}
use Rattle.bench_spec.specs.Taken.{Run}
use Rattle.bench_spec.specs.declared.opening.OpeningError.TheVariants as opening
use Rattle.live_report.specs.declared.fault.LifeFault.{LifeFault}
use Rattle.live_report.specs.declared.fault.LifeFault.TheVariants.{Disagreed, NoMemory, NoThread}

-- how many shards run in threads: none, where nothing is kept to start a bench with
abbrev pub threads_of : Option Config → ℕ
threads_of None = 0
threads_of (Some config) = min config.shards MAX_SHARDS

-- why a bench is not started before that is tried: its world has a log, or it has another number of desks
abbrev pub fault_before : Run → Config → (desks : ℕ) → Option LifeFault
fault_before run config desks =
    if (length run.log == 0) && (config.desks == desks) then None else Some Disagreed

-- why a bench is not started. What its world was opened with can be opened again
abbrev pub not_started : StartFault → LifeFault
not_started starting.NoThread = NoThread
not_started (starting.Opening opening.NoMemory) = NoMemory
not_started (starting.Opening error) = Disagreed

-- why a bench has no log
abbrev pub not_gathered : GatherFault → LifeFault
not_gathered gathering.NoMemory = NoMemory
not_gathered gathering.Full = Disagreed
not_gathered (gathering.Disagree at) = Disagreed
