-- What a shard is to a contract.
use Rattle.std.specs.Prelude.{◌≡◌, ◌<◌, ℕ, zero, suc, ◌&&◌, nat_le, Bool, false, if◌then◌else◌, List, [], ◌∷◌, ◌++◌}
use Rattle.std.specs.Prelude.{length, map, is_none, unwrap_or, slice_get, Option}
use Rattle.sess_dir.specs.Names.{place_of}
use Rattle.tab_step.specs.declared.machine.MachineState.{MachineState}
use Rattle.bench_item.specs.Keys.{Configured, in_shard, key_of, number_at}
use Rattle.bench_item.specs.declared.key.Key.{Key}
use Rattle.bench_item.specs.declared.key.Role.TheVariants.{Peer}
use Rattle.bench_item.specs.declared.limit.TheConstants.{MAX_MACHINES}
use Rattle.bench_queue.specs.Inbox.{InboxView, items_in, nothing_in}
use Rattle.bench_queue.specs.Outbox.{OutboxView, nothing_out}
use Rattle.bench_spec.specs.Machines.{start}
use Rattle.bench_spec.specs.Refusal.{is_crowded}
use Rattle.bench_shard.specs.declared.fault.PutError.{PutError}
use Rattle.bench_shard.specs.declared.fault.PutError.TheVariants.{Full, NoMemory}
use Rattle.bench_shard.specs.Names.{key_octets}

-- a shard: its number, the configured peers, its machines in order of number, each with its octets and as it stands,
-- what came to it, what it put out, and whether it is paused
pub record ShardView : Type 0 where
  pub number : ℕ
  pub peers : Configured
  pub names : List (List ℕ)
  pub states : List MachineState
  pub inbox : InboxView
  pub outbox : OutboxView
  pub paused : Bool

-- the place of a machine, if it is there
abbrev pub place_in : ShardView → Key → Option ℕ
place_in v key = place_of v.names (key_octets key)

-- the place that a machine has, or gets where it is the next
abbrev pub place_for : ShardView → Key → ℕ
place_for v key = unwrap_or (place_in v key) (length v.names)

-- its number, and where it stands: at its start where it is not there
abbrev pub number_for : ShardView → Key → ℕ
number_for v key = number_at v.number (place_for v key)

abbrev pub state_for : ShardView → Key → MachineState
state_for v key = unwrap_or (slice_get v.states (place_for v key)) (start (number_for v key))

-- whether there is no room for a machine: it is not there, and the shard has all that it may have
abbrev pub lacks_room : ShardView → Key → Bool
lacks_room v key = is_none (place_in v key) && nat_le MAX_MACHINES (length v.names)

-- the machines of those of the hosts that are in the shard
abbrev pub peer_names : ℕ → ℕ → List (List ℕ) → List (List ℕ)
peer_names shards number hosts = map (λ host. key_octets (key_of Peer host)) (in_shard shards number hosts)

-- the first machines of a shard, so many, each at its start
abbrev pub starts : ℕ → ℕ → List MachineState
starts number zero = []
starts number (suc count) = starts number count ++ start (number_at number count) ∷ []

-- a shard that was just made: it has the machines of its peers, each at its start
abbrev pub opened : ℕ → Configured → ShardView
opened number peers = record {
  number = number;
  peers = peers;
  names = peer_names peers.shards number peers.hosts;
  states = starts number (length (peer_names peers.shards number peers.hosts));
  inbox = nothing_in;
  outbox = nothing_out;
  paused = false;
}

-- the shard with another inbox, another outbox, or paused or not
abbrev pub with_inbox : ShardView → InboxView → ShardView
with_inbox v inbox = record v { inbox = inbox }

abbrev pub with_outbox : ShardView → OutboxView → ShardView
with_outbox v outbox = record v { outbox = outbox }

abbrev pub with_paused : ShardView → Bool → ShardView
with_paused v paused = record v { paused = paused }

-- why an item is refused: as many wait as may, or else memory was refused
abbrev pub put_error : ShardView → PutError
put_error v = if is_crowded (items_in v.inbox) then Full else NoMemory

-- a shard is one of the node's, and each of its machines has its octets and stands somewhere
pub record IsWhole (number : ℕ) (peers : Configured) (names : List (List ℕ)) (states : List MachineState) : Type 0 where
  pub here : number < peers.shards
  pub each : length states ≡ length names
