-- What becomes of a shard's machines as it handles an item, and how that is taken back.
use Rattle.std.specs.Prelude.{◌≡◌, ℕ, ◌-◌, List, [], ◌∷◌, ◌++◌, length, take, set, Option, Some, None}
use Rattle.sess_dir.specs.Names.{place_of}
use Rattle.tab_step.specs.declared.machine.MachineState.{MachineState}
use Rattle.bench_item.specs.declared.key.Key.{Key}
use Rattle.bench_shard.specs.Names.{key_octets}
use Rattle.bench_shard.specs.declared.settle.Settled.{Settled}
use Rattle.bench_shard.specs.declared.settle.Settled.TheVariants.{Untouched, Came, Stood}

-- a machine's name stands behind the others, unless it is there
abbrev pub settled_names : List (List ℕ) → Key → List (List ℕ)
settled_names names key = by (place_of names (key_octets key))
  where
    by : Option ℕ → List (List ℕ)
    by (Some place) = names
    by None = names ++ key_octets key ∷ []

-- the machine stands so, in its place or behind the others
abbrev pub settled_states : List (List ℕ) → List MachineState → Key → MachineState → List MachineState
settled_states names states key state = by (place_of names (key_octets key))
  where
    by : Option ℕ → List MachineState
    by (Some place) = set states place state
    by None = states ++ state ∷ []

-- the same where the machine comes to stand somewhere; else all stays
abbrev pub names_left : List (List ℕ) → Key → Option MachineState → List (List ℕ)
names_left names key None = names
names_left names key (Some state) = settled_names names key

abbrev pub states_left : List (List ℕ) → List MachineState → Key → Option MachineState → List MachineState
states_left names states key None = states
states_left names states key (Some state) = settled_states names states key state

-- the names and the states as they were before
abbrev pub unsettled_names : Settled → List (List ℕ) → List (List ℕ)
unsettled_names Untouched names = names
unsettled_names Came names = take (length names - 1) names
unsettled_names (Stood place state) names = names

abbrev pub unsettled_states : Settled → List MachineState → List MachineState
unsettled_states Untouched states = states
unsettled_states Came states = take (length states - 1) states
unsettled_states (Stood place state) states = set states place state

-- the machine at that place stood elsewhere
abbrev pub IsStood : Settled → ℕ → Type 0
IsStood (Stood p state) place = p ≡ place
IsStood settled place = ⊥
