-- What a connection puts out at events that are no messages (RFC 6733 section 5.6.2).
use Rattle.std.specs.Prelude.{ℕ, List, [], codes, Option, None, Some}
use Rattle.base_codes.specs.declared.peer_register.TheConstants.{DIAL}
use Rattle.bench_item.specs.declared.hears.Heard.{Heard}
use Rattle.bench_item.specs.declared.hears.LineEvent.{LineEvent}
use Rattle.bench_item.specs.declared.hears.LineEvent.TheVariants.{Acknowledged, Refused, Disconnected}
use Rattle.bench_item.specs.declared.item.Condition.{Condition}
use Rattle.bench_item.specs.declared.item.Item.{Item}
use Rattle.bench_item.specs.declared.opening.Opening.{Opening}
use Rattle.bench_item.specs.declared.opening.Opening.TheVariants.{Accepted, Dialled}
use Rattle.peer_rules.specs.declared.event.Side.TheVariants.{I, R}
use Rattle.line_message.specs.Hearing.{Hearing}
use Rattle.line_message.specs.Posts.{at_line, event_for, has_line, named, no_facts}

-- an event of a connection for the machine of a peer
unfoldable pub told : Hearing → ℕ → ℕ → List ℕ → Condition → Option Item
told l line peer name condition = event_for l peer (named name) (at_line peer line no_facts) (Some condition) []

-- the peer's machine must still wait for that dial
abbrev pub has_dial : ℕ → Condition
has_dial generation = record { register = DIAL; value = generation }

-- an accepted connection has a peer once it is greeted
abbrev pub lost_by : Hearing → ℕ → Option ℕ → Option Item
lost_by l line None = None
lost_by l line (Some peer) = told l line peer (codes "R-Peer-Disc") (has_line R line)

-- a dial's acknowledgement and its refusal are for that dial alone; a connection that is lost once it was acknowledged
-- or greeted tells its peer's machine
abbrev pub turned_by : Hearing → ℕ → Option ℕ → LineEvent → Opening → Option Item
turned_by l line greeted Acknowledged (Dialled peer generation) =
    told l line peer (codes "I-Rcv-Conn-Ack") (has_dial generation)
turned_by l line greeted Refused (Dialled peer generation) =
    told l line peer (codes "I-Rcv-Conn-Nack") (has_dial generation)
turned_by l line greeted Disconnected (Dialled peer generation) =
    told l line peer (codes "I-Peer-Disc") (has_line I line)
turned_by l line greeted Disconnected Accepted = lost_by l line greeted
turned_by l line greeted event Accepted = None

unfoldable pub turned : Hearing → Heard → LineEvent → Option Item
turned l at event = turned_by l at.line at.greeted event at.opening
