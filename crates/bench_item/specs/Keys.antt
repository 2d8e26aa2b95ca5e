-- Which machine a key is, and where it has its place.
use Rattle.std.specs.Prelude.{ℕ, ◌+◌, ◌*◌, ◌/◌, ◌%◌, ◌==◌, ◌&&◌, Bool, true, false}
use Rattle.std.specs.Prelude.{List, filter, sum, slice_get, Option}
use Rattle.std.specs.Str.{bytes_eq}
use Rattle.tab_law.specs.Books.{Laws}
use Rattle.bench_item.specs.declared.key.Key.{Key}
use Rattle.bench_item.specs.declared.key.Role.{Role}
use Rattle.bench_item.specs.declared.key.Role.TheVariants.{Peer, Client, Server}
use Rattle.bench_item.specs.declared.limit.TheConstants.{MAX_MACHINES}

-- whether two roles are one
abbrev pub is_same_role : Role → Role → Bool
is_same_role Peer Peer = true
is_same_role Client Client = true
is_same_role Server Server = true
is_same_role one other = false

-- whether two keys are of one machine
abbrev pub is_same_key : Key → Key → Bool
is_same_key one other = is_same_role one.role other.role && bytes_eq one.name other.name

abbrev pub key_of : Role → List ℕ → Key
key_of role name = record { role = role; name = name }

-- the shard of a name: the sum of its octets, divided by the count of shards, leaves its number
abbrev pub home : ℕ → List ℕ → ℕ
home shards name = sum name % shards

-- the hosts of the configured peers in their order, and how many shards there are
pub record Configured : Type 0 where
  pub hosts : List (List ℕ)
  pub shards : ℕ

-- what the places of machines and the kinds of events depend on: the laws, the hosts of the configured peers in their
-- order, and how many shards there are
pub record Node : Type 0 where
  pub laws : Laws
  pub peers : List (List ℕ)
  pub shards : ℕ

-- the node of these laws and these peers, and the peers of a node
abbrev pub node_of : Laws → Configured → Node
node_of laws configured = record { laws = laws; peers = configured.hosts; shards = configured.shards }

abbrev pub peers_of : Node → Configured
peers_of node = record { hosts = node.peers; shards = node.shards }

-- the hosts whose machines are in a shard
abbrev pub in_shard : ℕ → ℕ → List (List ℕ) → List (List ℕ)
in_shard shards shard hosts = filter (λ host. home shards host == shard) hosts

abbrev pub peers_in : Node → ℕ → List (List ℕ)
peers_in node shard = in_shard node.shards shard node.peers

-- the number of the machine at a place of a shard's directory
abbrev pub number_at : ℕ → ℕ → ℕ
number_at shard place = shard * MAX_MACHINES + place

-- the shard of a number, and the place in its directory
abbrev pub shard_of : ℕ → ℕ
shard_of number = number / MAX_MACHINES

abbrev pub place_of : ℕ → ℕ
place_of number = number % MAX_MACHINES

-- the host of the peer whose machine has this number, if one has: a shard's peers come first in its directory
abbrev pub numbered : Configured → ℕ → Option (List ℕ)
numbered configured number =
    slice_get (in_shard configured.shards (shard_of number) configured.hosts) (place_of number)

abbrev pub peer_numbered : Node → ℕ → Option (List ℕ)
peer_numbered node number = numbered (peers_of node) number
