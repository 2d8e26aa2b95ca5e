-- What an entry says of connections, messages and machines.
use Rattle.std.specs.Prelude.{ℕ, ◌+◌, ◌-◌, ◌*◌, ◌%◌, ◌^◌, ◌==◌, ◌||◌, List, Option, None, Some, if◌then◌else◌}
use Rattle.std.specs.Prelude.{slice_index}
use Rattle.base_codes.specs.DeedCodes.{number_of}
use Rattle.base_codes.specs.declared.deed_code.DeedCode.TheVariants.{SndMsg}
use Rattle.base_codes.specs.declared.message_class.TheConstants.{REQUEST, ANSWER, FAULT}
use Rattle.base_codes.specs.declared.session_fact.TheConstants.{HOP_BY_HOP, CLASS, REQUEST_NUMBER, RESULT_CODE}
use Rattle.bench_item.specs.declared.entry.Entry.{Entry}
use Rattle.bench_item.specs.declared.entry.Handled.{Handled}
use Rattle.bench_item.specs.declared.entry.Handled.TheVariants as handled_as
use Rattle.bench_item.specs.declared.item.Item.{Item}
use Rattle.bench_item.specs.declared.item.Item.TheVariants.{ToLine, ToMachine}
use Rattle.bench_item.specs.declared.item.LineItem.{LineItem}
use Rattle.bench_item.specs.declared.item.MachineItem.{MachineItem}
use Rattle.bench_item.specs.declared.source.Source.TheVariants.{Line}
use Rattle.bench_item.specs.declared.step.Step.{Step}
use Rattle.bench_item.specs.declared.step.Step.TheVariants as steps
use Rattle.deed_message.specs.Headers.{identifier}
use Rattle.live_stats.specs.declared.seen.Message.{Message}
use Rattle.live_stats.specs.declared.seen.Message.TheVariants as messages
use Rattle.live_stats.specs.declared.seen.Seen.{Seen}
use Rattle.live_stats.specs.declared.seen.Seen.TheVariants as seen

-- a connection and a Hop-by-Hop Identifier, by which an answer is its request's (RFC 6733 section 3), as one number
abbrev pub key_of : (line hop_by_hop : ℕ) → ℕ
key_of line hop_by_hop = line % 65536 * 2 ^ 32 + hop_by_hop % 2 ^ 32

-- a message, by its class
abbrev pub message_in : (class request answer code : ℕ) → Option Message
message_in class request answer code =
    if class == REQUEST then Some (messages.Request request)
    else (if class == ANSWER || (class == FAULT) then Some (messages.Answer answer code) else None)

-- what came on a connection
abbrev pub heard_as : ℕ → Option Message → Seen
heard_as line (Some message) = seen.Heard line message
heard_as line None = seen.Nothing

abbrev pub heard : ℕ → List ℕ → Seen
heard line facts =
    heard_as line (message_in (slice_index facts CLASS) (key_of line (slice_index facts HOP_BY_HOP))
    (key_of line (slice_index facts HOP_BY_HOP)) (slice_index facts RESULT_CODE))

-- what a deed sends: a request has the identifier of its machine and of its number, an answer that of its request
abbrev pub sent_as : Option Message → Seen
sent_as (Some message) = seen.Sent message
sent_as None = seen.Nothing

abbrev pub request_hop : List ℕ → ℕ
request_hop a = identifier (slice_index a HOP_BY_HOP) (slice_index a REQUEST_NUMBER - 1)

abbrev pub sent : LineItem → Seen
sent item =
    if item.deed.code == number_of SndMsg
    then sent_as (message_in (slice_index item.deed.a CLASS) (key_of item.line (request_hop item.deed.a))
    (key_of item.line (slice_index item.deed.a HOP_BY_HOP)) (slice_index item.deed.a RESULT_CODE))
    else seen.Nothing

-- what became of an event that a shard handled
abbrev pub moved : MachineItem → Handled → Seen
moved item (handled_as.Move move) = seen.Moved item.key.role move.before.state move.after.state
moved item other = seen.Nothing

-- what an entry says: of octets that came, of a message that is taken off its connection, of one that is handed to its
-- connection, and of a machine that moved
abbrev pub seen_in : Entry → Seen
seen_in entry = by entry.step entry.item entry.handled
  where
    by : Step → Option Item → Option Handled → Seen
    by (steps.Came line piece) item handled = seen.Came line
    by (steps.Lift (Line line)) (Some (ToMachine item)) handled = heard line item.event.facts
    by (steps.Drop source) (Some (ToLine item)) handled = sent item
    by (steps.Work shard) (Some (ToMachine item)) (Some handled) = moved item handled
    by step item handled = seen.Nothing
