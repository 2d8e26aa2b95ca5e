-- When all that waits at a bench was carried and handled, as far as it can be.
use Rattle.std.specs.Prelude.{◌≡◌, ◌<◌, ◌≤◌, ℕ, Bool, false, true, None, Some, length}
use Rattle.bench_item.specs.declared.limit.TheConstants.{MAX_ENTRIES}
use Rattle.bench_item.specs.declared.source.Source.{Source}
use Rattle.bench_item.specs.declared.source.Source.TheVariants as of
use Rattle.bench_item.specs.declared.step.Step.{Step}
use Rattle.bench_item.specs.declared.step.Step.TheVariants as steps
use Rattle.bench_item.specs.declared.step.StepFault.{StepFault}
use Rattle.bench_node.specs.declared.node.TheConstants.{LINE_PLACES}
use Rattle.bench_spec.specs.Lines.{openings}
use Rattle.bench_spec.specs.Refusal.{refusal}
use Rattle.bench_spec.specs.Taken.{Run, Takes}

-- a step can't be taken, and why
pub record IsRefused (run : Run) (step : Step) : Type 0 where
  pub fault : StepFault
  pub is : refusal run.settings run.log run.paused step ≡ Some fault

-- whether a step can be taken
abbrev pub CanBe : (can : Bool) → Run → Step → Type 0
CanBe true run step = refusal run.settings run.log run.paused step ≡ None
CanBe false run step = IsRefused run step

-- of what a source put out nothing can be carried
pub record IsStill (source : Source) (run : Run) : Type 0 where
  pub drops_none : IsRefused run (steps.Drop source)
  pub lifts_none : IsRefused run (steps.Lift source)

-- of the connections before a number, all that were opened are still
abbrev pub AreLinesStill : ℕ → Run → Type 0
AreLinesStill count run =
    (line : ℕ) → 0 < line → line < count → line ≤ length (openings run.log) → IsStill (of.Line line) run

-- so many desks are still
abbrev pub AreDesksStill : ℕ → Run → Type 0
AreDesksStill count run = (desk : ℕ) → desk < count → IsStill (of.Desk desk) run

-- so many shards are still
abbrev pub AreShardsStill : ℕ → Run → Type 0
AreShardsStill count run = (shard : ℕ) → shard < count → IsStill (of.Shard shard) run

-- so many shards can handle nothing
abbrev pub AreIdle : ℕ → Run → Type 0
AreIdle count run = (shard : ℕ) → shard < count → IsRefused run (steps.Work shard)

-- but for the connections, nothing that waits can be carried or handled
pub record AreOthersStill (run : Run) : Type 0 where
  pub clock : IsStill of.Clock run
  pub desks : AreDesksStill run.settings.desks run
  pub shards : AreShardsStill run.settings.node.shards run
  pub idle : AreIdle run.settings.node.shards run

-- nothing that waits can be carried or handled; there are no more connections than these
pub record IsSettled (run : Run) : Type 0 where
  pub lines : AreLinesStill LINE_PLACES run
  pub others : AreOthersStill run

-- the log is full
abbrev pub IsFull : Run → Type 0
IsFull run = MAX_ENTRIES ≤ length run.log

-- entries were added; or nothing was, and then this holds
abbrev pub Went : (Run → Type 0) → (went : Bool) → (old new : Run) → Type 0
Went P true old new = length old.log < length new.log
Went P false old new = (new ≡ old) × P new

-- a step was taken; or it can't be
abbrev pub Took : Step → (went : Bool) → (old new : Run) → Type 0
Took step true old new = Takes old new step
Took step false old new = (new ≡ old) × IsRefused new step

-- whether entries were added
abbrev pub Says : (moved : Bool) → (old new : Run) → Type 0
Says true old new = length old.log < length new.log
Says false old new = new ≡ old
