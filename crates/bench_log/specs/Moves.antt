-- Which machine an entry moves, and the entries of a machine.
use Rattle.std.specs.Prelude.{ℕ, ◌==◌, Bool, false, List, Option, Some, None, true, map, filter}
use Rattle.std.specs.List.{slice_get, enumerate_from}
use Rattle.std.specs.Option.{option_map, option_map_or}
use Rattle.bench_item.specs.declared.entry.Entry.{Entry}
use Rattle.bench_item.specs.declared.entry.Handled.{Handled}
use Rattle.bench_item.specs.declared.entry.Handled.TheVariants as handled
use Rattle.bench_item.specs.declared.entry.Moved.{Moved}
use Rattle.bench_item.specs.declared.item.Item.{Item}
use Rattle.bench_item.specs.declared.step.Step.{Step}
use Rattle.bench_item.specs.Entries.{moved_in}

-- an entry of these parts
abbrev pub entry_with : Step → Option Item → Option Handled → Entry
entry_with step item handled = record { step = step; item = item; handled = handled }

-- the move, if that is what became of an item
abbrev pub move_in : Handled → Option Moved
move_in (handled.Move moved) = Some moved
move_in h = None

-- whether its condition failed
abbrev pub is_stale : Handled → Bool
is_stale (handled.Stale state) = true
is_stale h = false

-- the number of the machine that an entry moves: stale and busy ones move none
abbrev pub machine_in : Entry → Option ℕ
machine_in e = option_map (λ moved. moved.machine) (slice_get (moved_in e) 0)

-- whether an entry moves that machine
abbrev pub moves : ℕ → Entry → Bool
moves machine e = option_map_or (λ m. m == machine) (machine_in e) false

-- the places of the entries that move a machine, in order
abbrev pub places_of : ℕ → List Entry → List ℕ
places_of machine log =
    map (λ numbered. numbered.0) (filter (λ numbered. moves machine numbered.1) (enumerate_from 0 log))
