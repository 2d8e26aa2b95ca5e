-- The configured peers of a node: which of them a message names, and the number of its machine.
use Rattle.std.specs.Prelude.{◌≡◌, ℕ, ◌<◌, ◌≤◌, Bool, false, List, length, take, find, position, nat_le}
use Rattle.std.specs.Prelude.{is_some, slice_get, AllPairs, Option, Some, None, if◌then◌else◌}
use Rattle.std.specs.Option.{option_map, option_and_then}
use Rattle.std.specs.Str.{str_eq_ignore_ascii_case}
use Rattle.base_list.specs.declared.error.AddFault.{AddFault}
use Rattle.base_list.specs.declared.error.AddFault.TheVariants.{Taken, Full}
use Rattle.bench_item.specs.declared.limit.TheConstants.{MAX_PEERS, MAX_SHARDS}
use Rattle.bench_item.specs.Keys.{Configured, home, in_shard, number_at}

-- whether two hosts are one: a host is an FQDN (RFC 6733 section 4.3.1), in which the case of ASCII letters does not
-- count
abbrev pub is_same_host : List ℕ → List ℕ → Bool
is_same_host one other = str_eq_ignore_ascii_case one other

-- no host is configured twice, and shards and peers are within their limits
pub record IsConfigured (configured : Configured) : Type 0 where
  pub some : 0 < configured.shards
  pub few : configured.shards ≤ MAX_SHARDS
  pub peers : length configured.hosts ≤ MAX_PEERS
  pub apart : AllPairs (λ one other. is_same_host one other ≡ false) configured.hosts

-- the place of a host among the peers, and the host as it is configured there, whatever its case in a message
abbrev pub host_place : Configured → List ℕ → Option ℕ
host_place configured host = position (λ one. is_same_host one host) configured.hosts

abbrev pub configured_host : Configured → List ℕ → Option (List ℕ)
configured_host configured host = find (λ one. is_same_host one host) configured.hosts

-- the number of the machine of a peer with these peers before it: in its shard it stands behind those of them that are
-- there
abbrev pub number_behind : ℕ → List (List ℕ) → List ℕ → ℕ
number_behind shards before host =
    number_at (home shards host) (length (in_shard shards (home shards host) before))

-- the number of the machine of the peer at a place
abbrev pub number_of_peer : Configured → ℕ → Option ℕ
number_of_peer configured place =
    option_map (number_behind configured.shards (take place configured.hosts)) (slice_get configured.hosts place)

-- the number of the machine of the peer that a message names so
abbrev pub numbered_host : Configured → List ℕ → Option ℕ
numbered_host configured host = option_and_then (number_of_peer configured) (host_place configured host)

-- why a host may not be added, memory aside: it is there already, or else there are as many as may be
abbrev pub refusal : List ℕ → Configured → Option AddFault
refusal host configured =
    if is_some (host_place configured host) then Some Taken
    else if nat_le MAX_PEERS (length configured.hosts) then Some Full else None
