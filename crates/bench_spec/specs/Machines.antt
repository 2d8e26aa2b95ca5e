-- The machines of a log: which are there, their numbers, their moves, and where each stands.
use Rattle.std.specs.Prelude.{ℕ, ◌==◌, Bool, true, false, List, [], ◌∷◌, ◌++◌, map, filter, flat_map, position, Option}
use Rattle.std.specs.Prelude.{Some, None, option_map, option_to_list, slice_get, slice_index, slice_set, if◌then◌else◌}
use Rattle.base_codes.specs.declared.session_register.TheConstants.{MACHINE}
use Rattle.tab_step.specs.declared.machine.MachineState.{MachineState}
use Rattle.bench_item.specs.declared.entry.Entry.{Entry}
use Rattle.bench_item.specs.declared.entry.Handled.{Handled}
use Rattle.bench_item.specs.declared.entry.Moved.{Moved}
use Rattle.bench_item.specs.declared.entry.Handled.TheVariants.{TooBusy}
use Rattle.std.specs.List.{position_or_len}
use Rattle.bench_item.specs.Entries.{moved_in}
use Rattle.bench_item.specs.Keys.{Node, home, is_same_key, key_of, number_at, peers_in, place_of, shard_of}
use Rattle.bench_item.specs.Posts.{no_facts}
use Rattle.bench_item.specs.declared.item.Condition.{Condition}
use Rattle.bench_item.specs.declared.item.Item.{Item}
use Rattle.bench_item.specs.declared.item.Item.TheVariants.{ToMachine}
use Rattle.bench_item.specs.declared.item.MachineItem.{MachineItem}
use Rattle.bench_item.specs.declared.key.Key.{Key}
use Rattle.bench_item.specs.declared.key.Role.TheVariants.{Peer}
use Rattle.bench_item.specs.declared.step.Step.{Step}
use Rattle.bench_item.specs.declared.step.Step.TheVariants.{Work}
use Rattle.bench_item.specs.Past.{distinct}

-- the event that an item carries to a machine, if it is one that does
abbrev pub machine_item : Item → List MachineItem
machine_item (ToMachine item) = item ∷ []
machine_item item = []

-- whether a step is work of the shard
abbrev pub is_work : ℕ → Step → Bool
is_work shard (Work s) = s == shard
is_work shard step = false

abbrev pub is_busy : Handled → Bool
is_busy TooBusy = true
is_busy handled = false

-- the item that a shard handled in an entry, where its session found room
abbrev pub taken_in : Entry → List MachineItem
taken_in e = by e.handled
  where
    by : Option Handled → List MachineItem
    by None = []
    by (Some handled) = if is_busy handled then [] else flat_map machine_item (option_to_list e.item)

-- whether an item is for a machine of the shard
abbrev pub is_for : Node → ℕ → MachineItem → Bool
is_for node shard item = home node.shards item.key.name == shard

-- the machine of a shard that an entry brings into its directory, unless it is there
abbrev pub keys_in : Node → ℕ → Entry → List Key
keys_in node shard e = map (λ item. item.key) (filter (is_for node shard) (taken_in e))

-- the machines of a shard: its configured peers in their order, and then those whose items were handled, by the first
-- of these
abbrev pub directory : Node → ℕ → List Entry → List Key
directory node shard log =
    distinct is_same_key (map (key_of Peer) (peers_in node shard) ++ flat_map (keys_in node shard) log)

-- the place of a machine in its shard's directory, if it is there
abbrev pub place_in : Node → List Entry → Key → Option ℕ
place_in node log key = position (λ k. is_same_key k key) (directory node (home node.shards key.name) log)

-- the number of a machine, if it is there
abbrev pub number_of : Node → List Entry → Key → Option ℕ
number_of node log key = option_map (number_at (home node.shards key.name)) (place_in node log key)

-- the number that a machine has, or gets where it is the next: the first place of its key, or the one behind all
abbrev pub number_for : Node → List Entry → Key → ℕ
number_for node log key =
    number_at (home node.shards key.name)
    (position_or_len (λ k. is_same_key k key) (directory node (home node.shards key.name) log))

-- the machine of a number, if there is one
abbrev pub key_numbered : Node → List Entry → ℕ → Option Key
key_numbered node log number = slice_get (directory node (shard_of number) log) (place_of number)

-- the moves of a machine: those that items with its key led to
abbrev pub moves_in : Key → Entry → List Moved
moves_in key e =
    flat_map (λ item. if is_same_key key item.key then moved_in e else [])
    (flat_map machine_item (option_to_list e.item))

abbrev pub moves_of : List Entry → Key → List Moved
moves_of log key = flat_map (moves_in key) log

-- a machine at its start: the first state of its table, and its number in its register
abbrev pub start : ℕ → MachineState
start machine = record { state = 0; regs = slice_set no_facts MACHINE machine }

-- the machine after these moves
abbrev pub state_after : MachineState → List Moved → MachineState
state_after state [] = state
state_after state (moved ∷ moves) = state_after moved.after moves

-- where a machine stands: at its start, or as its last move left it
abbrev pub state_at : Node → List Entry → Key → MachineState
state_at node log key = state_after (start (number_for node log key)) (moves_of log key)

-- the same, if the machine is there
abbrev pub state_of : Node → List Entry → Key → Option MachineState
state_of node log key = option_map (λ number. state_at node log key) (number_of node log key)

-- whether an item's condition holds in a machine
abbrev pub holds : Option Condition → MachineState → Bool
holds None state = true
holds (Some condition) state = slice_index state.regs condition.register == condition.value
