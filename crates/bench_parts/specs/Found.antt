-- The entry that stands at a place of a part, and what is looked at of it.
use Rattle.std.specs.Prelude.{Bool, is_none, List, [], ◌∷◌, Option, option_to_list, slice_get}
use Rattle.std.specs.List.{list_all}
use Rattle.bench_item.specs.declared.entry.Entry.{Entry}
use Rattle.bench_item.specs.declared.item.Item.{Item}
use Rattle.bench_item.specs.declared.step.Step.{Step}
use Rattle.bench_log.specs.Moves.{machine_in}
use Rattle.bench_parts.specs.declared.find.Brief.{Brief}
use Rattle.bench_parts.specs.declared.find.Found.{Found}
use Rattle.bench_parts.specs.declared.find.Found.TheVariants.{InLog, Kept, Nothing}

-- what is found: the entry at a place of a log, if one stands there, or the one that was kept
abbrev pub entries_found : Found → List Entry
entries_found Nothing = []
entries_found (InLog log place) = option_to_list (slice_get log.now.entries place)
entries_found (Kept entry) = entry.now ∷ []

-- its step; its step and its item
abbrev pub step_of : Entry → Step
step_of e = e.step

abbrev pub brief_with : Step → Option Item → Brief
brief_with step item = record { step = step; item = item }

abbrev pub brief_of : Entry → Brief
brief_of e = brief_with e.step e.item

-- whether no machine moved
abbrev pub is_still : List Entry → Bool
is_still es = list_all (λ e. is_none (machine_in e)) es
