-- What a desk keeps in a bench that runs in threads, what it is answered, and how parts are gathered to a world.
use Rattle.std.specs.Prelude.{◌≡◌, ◌<◌, ◌≤◌, ◌+◌, ℕ, ◌==◌, ◌&&◌, not, nat_le, Bool, List, [], ◌∷◌, filter, find}
use Rattle.std.specs.Prelude.{flat_map, length, map, take, unwrap_or, None, Some, option_map, Result, Ok, Err, ◌⊎◌}
use Rattle.std.specs.List.{last_or}
use Rattle.tab_step.specs.declared.machine.Event.{Event}
use Rattle.bench_item.specs.declared.entry.Entry.{Entry}
use Rattle.bench_item.specs.declared.key.Key.{Key}
use Rattle.bench_item.specs.declared.item.MachineItem.{MachineItem}
use Rattle.bench_item.specs.declared.source.Source.TheVariants.{Desk}
use Rattle.bench_item.specs.declared.step.Step.TheVariants.{Lift, Told}
use Rattle.bench_item.specs.Keys.{home}
use Rattle.bench_spec.specs.Items.{posts, told_item}
use Rattle.bench_spec.specs.Legal.{IsLegal}
use Rattle.bench_spec.specs.Merged.{Did, IsMerged, Kept, Look, Parts, entries_kept, is_item_for, looks_kept}
use Rattle.bench_spec.specs.Refusal.{is_crowded, may_tell}
use Rattle.bench_spec.specs.Settings.{Settings}
use Rattle.bench_spec.specs.Taken.{Run, opened, with_log}

-- why a tell or a look is refused: there is no such machine or event, the inbox has as many items as may wait, or the
-- shard's counts contradict the desk's own
pub data DeskFault : Type 0 where
  Unknown : DeskFault
  Full : DeskFault
  Disagree : DeskFault
  NoMemory : DeskFault

-- the tell of an event to a machine whose shard has these items waiting is refused, in this order
abbrev pub tell_reasons : Settings → List MachineItem → Key → ℕ → List (Bool × DeskFault)
tell_reasons settings waiting key kind = (not (may_tell settings key kind), Unknown) ∷ (is_crowded waiting, Full) ∷ []

abbrev pub tell_fault : Settings → List MachineItem → Key → ℕ → DeskFault
tell_fault settings waiting key kind =
    unwrap_or (option_map (λ r. r.1) (find (λ r. r.0) (tell_reasons settings waiting key kind))) NoMemory

-- what a desk keeps of a tell that was taken: Told and Lift, with their stamps; the third stamp is that of the shard's
-- Drop
abbrev pub tell_kept : ℕ → List ℕ → Key → Event → List Kept
tell_kept desk (told ∷ lifted ∷ stamps) key event =
    Did (record { stamp = told; entry = record { step = Told desk key event; item = None; handled = None } })
    ∷ Did (record {
      stamp = lifted;
      entry =
          record { step = Lift (Desk desk); item = Some (told_item key event); handled = None };
    })
    ∷ []
tell_kept desk stamps key event = []

-- how much a desk told a shard, and how much of that had been handled there when it last looked
abbrev pub told_count : Settings → ℕ → List Kept → ℕ → ℕ
told_count settings desk kept shard =
    length
    (filter (is_item_for settings.node shard)
    (posts settings (map (λ s. s.entry) (flat_map entries_kept kept)) (Desk desk)))

abbrev pub seen_count : Settings → List Kept → ℕ → ℕ
seen_count settings kept shard =
    unwrap_or
    (option_map (λ l. l.handled)
    (last_or None (filter (λ l. home settings.node.shards l.key.name == shard) (flat_map looks_kept kept))))
    0

-- a look agrees with what its desk kept: all that it told the shard waits there or was handled, and no less was handled
-- than before
abbrev pub agrees : Settings → ℕ → List Kept → Look → Bool
agrees settings desk kept look =
    (look.waiting + look.handled == told_count settings desk kept (home settings.node.shards look.key.name))
    && nat_le (seen_count settings kept (home settings.node.shards look.key.name)) look.handled

-- a prefix of a log is legal, and no longer one is
pub record IsLongest (settings : Settings) (log : List Entry) (n : ℕ) : Type 0 where
  pub within : n ≤ length log
  pub legal : IsLegal settings (take n log)
  pub longest : n < length log → IsLegal settings (take (n + 1) log) → ⊥

-- what parts are gathered to: the world of the log as which they are merged, where that is legal; else the length of
-- its longest front that is, or 0 where the stamps give no such log
abbrev pub Gathers : Settings → Parts → Result Run ℕ → Type 0
Gathers settings parts (Ok world) =
    (log : List Entry) × IsMerged settings parts log × IsLegal settings log × (world ≡ with_log (opened settings) log)
Gathers settings parts (Err at) =
    ((log : List Entry) × IsMerged settings parts log × (IsLegal settings log → ⊥) × IsLongest settings log at)
    ⊎ (((log : List Entry) → IsMerged settings parts log → ⊥) × (at ≡ 0))
