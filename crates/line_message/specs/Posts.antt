-- The events that a connection puts out for the machine of its peer.
use Rattle.std.specs.Prelude.{ℕ, List, replicate, Option, None, slice_get, slice_set, unwrap_or}
use Rattle.std.specs.Option.{option_map, option_and_then}
use Rattle.base_codes.specs.declared.peer_fact.TheConstants.{PEER, LINE, HOP_BY_HOP, END_TO_END}
use Rattle.base_codes.specs.declared.peer_register.TheConstants.{I_LINE, R_LINE}
use Rattle.base_list.specs.Named.{place_of}
use Rattle.bench_item.specs.Keys.{key_of, numbered}
use Rattle.bench_item.specs.Peers.{numbered_host}
use Rattle.bench_item.specs.Posts.{machine_item}
use Rattle.bench_item.specs.declared.item.Condition.{Condition}
use Rattle.bench_item.specs.declared.item.Item.{Item}
use Rattle.bench_item.specs.declared.key.Role.TheVariants.{Peer as PeerRole}
use Rattle.bench_item.specs.declared.opening.Opening.{Opening}
use Rattle.bench_item.specs.declared.opening.Opening.TheVariants.{Accepted, Dialled}
use Rattle.dia_command.specs.declared.header.Header.{Header}
use Rattle.peer_rules.specs.Kinds.{kinds}
use Rattle.peer_rules.specs.declared.event.Side.{Side}
use Rattle.peer_rules.specs.declared.event.Side.TheVariants.{I, R}
use Rattle.tab_law.specs.declared.limits.TheConstants.{PLACES}
use Rattle.line_message.specs.Hearing.{Hearing}

-- the host of the configured peer whose machine has that number
abbrev pub host_of : Hearing → ℕ → Option (List ℕ)
host_of l number = numbered l.peers number

-- the number of the machine of the configured peer that a message names so, in any case of its letters
abbrev pub peer_of : Hearing → List ℕ → Option ℕ
peer_of l host = numbered_host l.peers host

-- the place in the laws of a kind of a peer's events, by its place among those; none where the laws lack it
abbrev pub kind_at : Hearing → Option ℕ → Option ℕ
kind_at l place = option_and_then (λ k. unwrap_or (slice_get l.places k) None) place

-- an event for the machine of that number: nothing where it is no configured peer's, or the laws lack its kind
unfoldable pub event_for : Hearing → ℕ → Option ℕ → List ℕ → Option Condition → List ℕ → Option Item
event_for l number place facts condition session =
    option_and_then
    (λ host. option_map (machine_item (key_of PeerRole host) facts condition session) (kind_at l place))
    (host_of l number)

-- the place of a kind among those of a peer's events
abbrev pub named : List ℕ → Option ℕ
named name = place_of name kinds

-- who opened a connection
abbrev pub side_of : Opening → Side
side_of Accepted = R
side_of (Dialled peer generation) = I

-- the peer's machine must still have that connection as its own
abbrev pub has_line : Side → ℕ → Condition
has_line I line = record { register = I_LINE; value = line }
has_line R line = record { register = R_LINE; value = line }

-- the facts of an event without any
abbrev pub no_facts : List ℕ
no_facts = replicate PLACES 0

-- facts with the peer's machine and the connection
unfoldable pub at_line : ℕ → ℕ → List ℕ → List ℕ
at_line peer line facts = slice_set (slice_set facts PEER peer) LINE line

-- the facts of a message: its identifiers
unfoldable pub of_message : Header → List ℕ
of_message header = slice_set (slice_set no_facts HOP_BY_HOP header.hop_by_hop) END_TO_END header.end_to_end
