-- What gathering the parts of a bench that ran in threads comes to.
use Rattle.std.specs.Prelude.{◌≡◌, ◌<◌, ◌⊎◌, ℕ, List, [], ◌∷◌, ◌++◌, flat_map, length, Result, Ok, Err}
use Rattle.bench_item.specs.declared.entry.Entry.{Entry}
use Rattle.bench_item.specs.declared.limit.TheConstants.{MAX_ENTRIES}
use Rattle.bench_merge.specs.Order.{Clashes, IsOrder}
use Rattle.bench_merge.specs.declared.merging.Placed.{Placed}
use Rattle.bench_spec.specs.Desks.{IsLongest}
use Rattle.bench_spec.specs.Legal.{IsLegal, MayFollow}
use Rattle.bench_spec.specs.Merged.{Kept, entries_kept}
use Rattle.bench_spec.specs.Settings.{Settings}
use Rattle.bench_spec.specs.Taken.{Replays, Run, with_log}
use Rattle.bench_gather.specs.Given.{Gives, Handed}
use Rattle.bench_gather.specs.Ordered.{entries_by, stamps_of}
use Rattle.bench_gather.specs.declared.fault.GatherFault.{GatherFault}
use Rattle.bench_gather.specs.declared.fault.GatherFault.TheVariants.{Disagree, Full, NoMemory}

-- an entry was added; or it may not follow, or memory was refused, and nothing changed
abbrev pub Adds : Run → Run → Entry → Result (Unit {0}) GatherFault → Type 0
Adds old new e (Ok done) = Replays old new e
Adds old new e (Err Full) = ⊥
Adds old new e (Err (Disagree at)) =
    (at ≡ length old.log) × IsLegal old.settings old.log × (MayFollow old.settings old.log e → ⊥) × (new ≡ old)
Adds old new e (Err NoMemory) = new ≡ old

-- what stands at a place of a part was added; or it may not follow, or memory was refused, and nothing changed
abbrev pub TakesAt : Run → Run → List Entry → Result (Unit {0}) GatherFault → Type 0
TakesAt old new es (Ok done) = new ≡ with_log old (old.log ++ es)
TakesAt old new es (Err Full) = ⊥
TakesAt old new es (Err (Disagree at)) =
    (e : Entry) × (es ≡ e ∷ []) × (at ≡ length old.log) × IsLegal old.settings old.log
    × (MayFollow old.settings old.log e → ⊥)
    × (new ≡ old)
TakesAt old new es (Err NoMemory) = new ≡ old

-- the entries are legal in that order, and the world is theirs; or they are not, the longest front that is legal is
-- told, and nothing changed; or memory was refused, and nothing changed
abbrev pub ReplaysParts : Run → Run → List (List Kept) → List Placed → Result (Unit {0}) GatherFault → Type 0
ReplaysParts old new parts order (Ok done) =
    IsLegal old.settings (entries_by parts order) × (new ≡ with_log old (entries_by parts order))
ReplaysParts old new parts order (Err Full) = ⊥
ReplaysParts old new parts order (Err (Disagree at)) =
    (IsLegal old.settings (entries_by parts order) → ⊥) × IsLongest old.settings (entries_by parts order) at
    × (new ≡ old)
ReplaysParts old new parts order (Err NoMemory) = new ≡ old

-- the parts give no log: their stamps have no order, or they don't give the log of that order
abbrev pub GiveNone : Settings → Handed → Type 0
GiveNone settings handed =
    Clashes (stamps_of handed.kept)
    ⊎ ((order : List Placed) × IsOrder (stamps_of handed.kept) order × (Gives settings handed order → ⊥))

-- how many of the entries are a legal log where the parts are of none:
-- 0 where they give no log, else those of the longest front of it that is legal
abbrev pub Disagrees : Settings → Handed → ℕ → Type 0
Disagrees settings handed at =
    (GiveNone settings handed × (at ≡ 0))
    ⊎ ((order : List Placed) × IsOrder (stamps_of handed.kept) order × Gives settings handed order
    × (IsLegal settings (entries_by handed.kept order) → ⊥)
    × IsLongest settings (entries_by handed.kept order) at)

-- what the parts are gathered to: the world of the log that they give, which is legal;
-- or they have more entries than a log may, or disagree, or memory was refused, and nothing changed
abbrev pub Gathers : Run → Run → Handed → Result (Unit {0}) GatherFault → Type 0
Gathers old new handed (Ok done) =
    (order : List Placed) × IsOrder (stamps_of handed.kept) order × Gives old.settings handed order
    × IsLegal old.settings (entries_by handed.kept order)
    × (new ≡ with_log old (entries_by handed.kept order))
Gathers old new handed (Err Full) =
    (MAX_ENTRIES < length (flat_map (λ kept. flat_map entries_kept kept) handed.kept)) × (new ≡ old)
Gathers old new handed (Err (Disagree at)) = Disagrees old.settings handed at × (new ≡ old)
Gathers old new handed (Err NoMemory) = new ≡ old
