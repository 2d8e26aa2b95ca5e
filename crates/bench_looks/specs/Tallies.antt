-- What the entries before a look say of it, entry by entry.
use Rattle.std.specs.Prelude.{◌≡◌, ◌≢◌, ◌≤◌, ℕ, ◌==◌, ◌&&◌, Bool, false, List, [], ◌∷◌, ◌++◌, flat_map, fold, length}
use Rattle.std.specs.Prelude.{map, take, Option, Some, None, option_to_list, if◌then◌else◌}
use Rattle.tab_step.specs.declared.machine.Event.{Event}
use Rattle.tab_step.specs.declared.machine.MachineState.{MachineState}
use Rattle.bench_item.specs.Keys.{home, is_same_key}
use Rattle.bench_item.specs.Steps.{is_same_source}
use Rattle.bench_item.specs.declared.entry.Entry.{Entry}
use Rattle.bench_item.specs.declared.entry.Moved.{Moved}
use Rattle.bench_item.specs.declared.item.Item.{Item}
use Rattle.bench_item.specs.declared.item.Item.TheVariants.{ToMachine}
use Rattle.bench_item.specs.declared.item.MachineItem.{MachineItem}
use Rattle.bench_item.specs.declared.key.Key.{Key}
use Rattle.bench_item.specs.declared.source.Source.TheVariants.{Desk}
use Rattle.bench_item.specs.declared.step.Step.{Step}
use Rattle.bench_item.specs.declared.step.Step.TheVariants.{Drop, Told}
use Rattle.bench_spec.specs.Items.{is_drop_from}
use Rattle.bench_spec.specs.Machines.{is_work, machine_item, taken_in}

-- what a desk tells a machine; what a step has it tell the machines of a shard, of so many
abbrev pub told : Key → Event → MachineItem
told key event = record { key = key; event = event; condition = None; session = [] }

abbrev pub tells : ℕ → ℕ → ℕ → Step → List MachineItem
tells shards shard desk (Told own key event) =
    if (own == desk) && (home shards key.name == shard) then told key event ∷ [] else []
tells shards shard desk step = []

abbrev pub told_by : ℕ → ℕ → ℕ → List Entry → List MachineItem
told_by shards shard desk es = flat_map (λ e. tells shards shard desk e.step) es

-- what an entry drops from a desk
abbrev pub drops : ℕ → Entry → List Item
drops desk e = if is_drop_from (Desk desk) e.step then option_to_list e.item else []

-- so many of the items that were told were dropped, all of them in their order; or none, where others were
abbrev pub AreMet : List Item → List Item → Option ℕ → Type 0
AreMet told dropped (Some met) = (met ≤ length told) × (dropped ≡ take met told)
AreMet told dropped None = (rest : List Item) → dropped ++ rest ≢ told

-- of an item that comes to a machine of the shard, of so many, whether the desk dropped it
abbrev pub comes : ℕ → ℕ → ℕ → Entry → List Bool
comes shards shard desk e = by e.step e.item
  where
    by : Step → Option Item → List Bool
    by (Drop source) (Some (ToMachine item)) =
        if home shards item.key.name == shard then is_same_source (Desk desk) source ∷ [] else []
    by step item = []

abbrev pub came : ℕ → ℕ → ℕ → List Entry → List Bool
came shards shard desk es = flat_map (comes shards shard desk) es

-- what a shard works in an entry
abbrev pub works : ℕ → Entry → List MachineItem
works shard e = if is_work shard e.step then flat_map machine_item (option_to_list e.item) else []

-- where moves left a machine, if there was one
abbrev pub later : Option MachineState → Moved → Option MachineState
later left moved = Some moved.after

abbrev pub left_after : Option MachineState → List Moved → Option MachineState
left_after left moves = fold later left moves

-- the machines whose items were handled, where their sessions found room
abbrev pub taken_key : Entry → List Key
taken_key e = map (λ item. item.key) (taken_in e)

abbrev pub taken_keys : List Entry → List Key
taken_keys es = flat_map taken_key es

-- whether another key is of that machine
abbrev pub is_key : Key → Key → Bool
is_key key own = is_same_key own key

-- whether all that was told, so much, is met
abbrev pub is_all : ℕ → Option ℕ → Bool
is_all count None = false
is_all count (Some met) = met == count
