-- What becomes of a node when its bench ends.
use Rattle.std.specs.Prelude.{◌≡◌, ◌≢◌, ◌⊎◌, false, length, Result, Ok, Err}
use Rattle.bench_gather.specs.Gathered.{Gathers}
use Rattle.bench_gather.specs.Given.{Handed, handed_over}
use Rattle.bench_gather.specs.declared.fault.GatherFault.{GatherFault}
use Rattle.bench_gather.specs.declared.fault.GatherFault.TheVariants.{Disagree, Full, NoMemory}
use Rattle.bench_live.specs.Ended.{parts_kept}
use Rattle.bench_live.specs.declared.parts.Logged.{Logged}
use Rattle.bench_spec.specs.Taken.{Run}
use Rattle.thread_node.specs.Nodes.{NodeView}

-- what was logged, to who gathers it
abbrev pub handed_by : Logged → Handed
handed_by logged =
    handed_over (parts_kept logged.shards.items logged.lines logged.clock logged.desks.items) logged.fed.items
    logged.pages.items

-- it was gathered; or it has another number of pages than the world, and nothing changed
abbrev pub HasGatheredOn : Run → Run → Logged → Result (Unit {0}) GatherFault → Type 0
HasGatheredOn old new logged result =
    Gathers old new (handed_by logged) result
    ⊎ ((result ≡ Err (Disagree 0)) × (length logged.pages.items ≢ old.settings.pages) × (new ≡ old))

-- the parts of its bench were handed over, with all steps that were fed to it, and gathered
pub record HasGathered (old : NodeView) (run : Run) (result : Result (Unit {0}) GatherFault) : Type 0 where
  pub logged : Logged
  pub fed : logged.fed.items ≡ old.fed
  pub gathers : Gathers old.run run (handed_by logged) result

-- they have another number of pages than the world
pub record HasOtherPages (old : NodeView) (run : Run) : Type 0 where
  pub logged : Logged
  pub fed : logged.fed.items ≡ old.fed
  pub others : length logged.pages.items ≢ old.run.settings.pages
  pub kept : run ≡ old.run

-- A node that was not started stays as it is. Else its parts were gathered: the world is that of the log that they
-- give, or it is told why not, and the world stays at its opening; or memory was wanting before.
abbrev pub Ends : NodeView → Run → Result (Unit {0}) GatherFault → Type 0
Ends old run (Ok done) = ((old.started ≡ false) × (run ≡ old.run)) ⊎ HasGathered old run (Ok done)
Ends old run (Err Full) = HasGathered old run (Err Full)
Ends old run (Err (Disagree at)) = HasGathered old run (Err (Disagree at)) ⊎ ((at ≡ 0) × HasOtherPages old run)
Ends old run (Err NoMemory) = run ≡ old.run
