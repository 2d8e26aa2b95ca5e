-- The events of a machine, by what came to its shard: they are not read off its moves.
use Rattle.std.specs.Prelude.{◌≡◌, ◌&&◌, not, ℕ, Bool, List, [], ◌∷◌, map, filter, if◌then◌else◌}
use Rattle.std.specs.List.{zip}
use Rattle.tab_step.specs.declared.machine.Event.{Event}
use Rattle.bench_item.specs.declared.entry.Entry.{Entry}
use Rattle.bench_item.specs.declared.item.MachineItem.{MachineItem}
use Rattle.bench_item.specs.declared.key.Key.{Key}
use Rattle.bench_item.specs.Keys.{Node, home, is_same_key}
use Rattle.bench_item.specs.Past.{flat_map_after}
use Rattle.bench_spec.specs.Booked.{book_at, event_with_quote, want_of}
use Rattle.bench_spec.specs.Items.{arrived}
use Rattle.bench_spec.specs.Legal.{IsLegal, IsRun, finds_no_room, is_met}
use Rattle.bench_spec.specs.Machines.{is_work, moves_of, number_for, start, state_at}
use Rattle.bench_spec.specs.Settings.{Settings, table_of}

-- what stood in the log before each work of a shard
abbrev pub before_works : ℕ → List Entry → List (List Entry)
before_works shard log = flat_map_after (λ past e. if is_work shard e.step then past ∷ [] else []) [] log

-- the items that came to a shard, as far as they were handled, each with what stood before its work: the first that
-- came has the first work
abbrev pub arrived_and_worked : Node → List Entry → ℕ → List (MachineItem × List Entry)
arrived_and_worked node log shard = zip (arrived node log shard) (before_works shard log)

-- whether an item was an event of the machine: one for it that was neither busy nor stale
abbrev pub is_own : Settings → Key → MachineItem × List Entry → Bool
is_own settings key worked =
    is_same_key key worked.0.key && not (finds_no_room settings worked.1 key) && is_met settings worked.1 worked.0

-- the event that it was, with what the book says to it
abbrev pub event_of : Settings → MachineItem × List Entry → Event
event_of settings worked =
    event_with_quote (book_at settings worked.1)
    (want_of settings.node.laws worked.0 (state_at settings.node worked.1 worked.0.key)) worked.0.event

-- a machine's own events, in order
abbrev pub own_events : Settings → List Entry → Key → List Event
own_events settings log key =
    map (event_of settings)
    (filter (is_own settings key) (arrived_and_worked settings.node log (home settings.node.shards key.name)))

-- the events of a machine's moves are its own, and the moves are a run of its role's table, from its start
pub record IsOwnRun (settings : Settings) (log : List Entry) (key : Key) : Type 0 where
  pub events : map (λ moved. moved.event) (moves_of log key) ≡ own_events settings log key
  pub run : IsRun settings.node.laws (table_of settings key.role) (start (number_for settings.node log key))
      (moves_of log key)

-- so it is in each legal log, for every machine
abbrev pub EachIsOwnRun : Type 0
EachIsOwnRun = (settings : Settings) (log : List Entry) → IsLegal settings log → (key : Key) → IsOwnRun settings log key
