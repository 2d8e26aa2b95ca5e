-- What gathering comes to where the parts are merged to a log.
use Rattle.std.specs.Prelude.{◌≡◌, ℕ, true, List, Ok, Err}
use Rattle.bench_item.specs.declared.entry.Entry.{Entry}
use Rattle.bench_spec.specs.Desks.{IsLongest}
use Rattle.bench_spec.specs.Legal.{IsLegal}
use Rattle.bench_spec.specs.Merged.{IsMerged}
use Rattle.bench_spec.specs.Taken.{Run, with_log}
use Rattle.bench_gather.specs.Checks.{looks_stand}
use Rattle.bench_gather.specs.Gathered.{Gathers}
use Rattle.bench_gather.specs.Given.{Handed, parts_of}
use Rattle.bench_gather.specs.declared.fault.GatherFault.TheVariants.{Disagree}

-- where parts were gathered they are merged to a log, which is legal, and the world is its own
abbrev pub GatheredIsMerged : Type 0
GatheredIsMerged =
    (old new : Run) (handed : Handed) → Gathers old new handed (Ok tt)
    → (log : List Entry) × IsMerged old.settings (parts_of old.settings.node.shards handed) log
    × IsLegal old.settings log
    × (new ≡ with_log old log)

-- where parts with looks of desks alone are merged to a log and disagreement is told, that log is not legal, and its
-- longest front that is legal has so many entries
abbrev pub MergedDisagrees : Type 0
MergedDisagrees =
    (old new : Run) (handed : Handed) (at : ℕ) (log : List Entry)
    → looks_stand old.settings.node.shards handed.kept ≡ true
    → IsMerged old.settings (parts_of old.settings.node.shards handed) log
    → Gathers old new handed (Err (Disagree at))
    → (IsLegal old.settings log → ⊥) × IsLongest old.settings log at

-- and the world that parts with looks of desks alone were gathered to is that of each log that they are merged to
abbrev pub MergedIsGathered : Type 0
MergedIsGathered =
    (old new : Run) (handed : Handed) (log : List Entry)
    → looks_stand old.settings.node.shards handed.kept ≡ true
    → IsMerged old.settings (parts_of old.settings.node.shards handed) log → Gathers old new handed (Ok tt)
    → IsLegal old.settings log × (new ≡ with_log old log)
