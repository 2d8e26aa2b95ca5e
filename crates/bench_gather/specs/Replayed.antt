-- What replaying a log on a world at its opening comes to.
use Rattle.std.specs.Prelude.{◌≡◌, ℕ, List, slice_get, Some, Result, Ok, Err}
use Rattle.bench_item.specs.declared.entry.Entry.{Entry}
use Rattle.bench_spec.specs.Desks.{IsLongest}
use Rattle.bench_spec.specs.Legal.{IsLegal, MayFollow}
use Rattle.bench_spec.specs.Taken.{Replays, Run, with_log}
use Rattle.bench_gather.specs.declared.fault.GatherFault.{GatherFault}
use Rattle.bench_gather.specs.declared.fault.GatherFault.TheVariants.{Disagree, Full, NoMemory}

-- the entry at a place was added; or it may not follow, or memory was refused, and nothing changed
abbrev pub ReplaysAt : Run → Run → List Entry → ℕ → Result (Unit {0}) GatherFault → Type 0
ReplaysAt old new log place (Ok done) = (e : Entry) × (slice_get log place ≡ Some e) × Replays old new e
ReplaysAt old new log place (Err Full) = ⊥
ReplaysAt old new log place (Err (Disagree at)) =
    (at ≡ place) × IsLegal old.settings old.log
    × ((e : Entry) → slice_get log place ≡ Some e → MayFollow old.settings old.log e → ⊥)
    × (new ≡ old)
ReplaysAt old new log place (Err NoMemory) = new ≡ old

-- the log is legal, and the world is that of the log; or it is not, its longest front that is legal is told, and
-- nothing changed; or memory was refused, and nothing changed
abbrev pub IsReplayed : Run → Run → List Entry → Result (Unit {0}) GatherFault → Type 0
IsReplayed old new log (Ok done) = IsLegal old.settings log × (new ≡ with_log old log)
IsReplayed old new log (Err Full) = ⊥
IsReplayed old new log (Err (Disagree at)) =
    (IsLegal old.settings log → ⊥) × IsLongest old.settings log at × (new ≡ old)
IsReplayed old new log (Err NoMemory) = new ≡ old
