-- The machines that entries bring into the directory of a shard, and whether one stands so.
use Rattle.std.specs.Prelude.{◌≡◌, ℕ, ◌==◌, List, [], ◌∷◌, ◌++◌, filter, unwrap_or}
use Rattle.tab_step.specs.declared.machine.MachineState.{MachineState}
use Rattle.bench_item.specs.Keys.{Node, home}
use Rattle.bench_item.specs.declared.entry.Entry.{Entry}
use Rattle.bench_item.specs.declared.key.Key.{Key}
use Rattle.bench_spec.specs.Machines.{directory, keys_in, state_of}
use Rattle.bench_spec.specs.Merged.{not_there}

-- they are those of the directory behind the peers, that are there at the opening
abbrev pub AreBrought : Node → ℕ → List Entry → List Key → Type 0
AreBrought node shard log keys = directory node shard log ≡ directory node shard [] ++ keys

-- of one more entry, which handled items of these machines
abbrev pub BringsKeys : Node → ℕ → List Key → List Key → List Key → Type 0
BringsKeys node shard old taken new =
    (log : List Entry) (e : Entry) → keys_in node shard e ≡ filter (λ k. home node.shards k.name == shard) taken
    → AreBrought node shard log old → AreBrought node shard (log ++ e ∷ []) new

-- a machine stands so after the entries of its shard
abbrev pub StandsSo : Node → List Entry → Key → MachineState → Type 0
StandsSo node log key stands = stands ≡ unwrap_or (state_of node log key) not_there
