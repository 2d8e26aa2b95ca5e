-- What a connection makes of a message (RFC 6733 sections 5.3 to 5.6).
use Rattle.std.specs.Prelude.{ℕ, ◌==◌, ◌&&◌, ◌||◌, nat_lt, Bool, true, false, List, [], length, codes, Option, None}
use Rattle.std.specs.Prelude.{Some, Result, Ok, Err, slice_set, unwrap_or, if◌then◌else◌}
use Rattle.std.specs.List.{list_any}
use Rattle.std.specs.Option.{option_map_or}
use Rattle.base_codes.specs.CommandCodes.{number_of as number_of_command}
use Rattle.base_codes.specs.ResultCodes.{number_of as number_of_result}
use Rattle.base_codes.specs.declared.application.TheConstants.{CREDIT_CONTROL, RELAY}
use Rattle.base_codes.specs.declared.avp_code.TheConstants.{AUTH_APPLICATION_ID, VENDOR_SPECIFIC_APPLICATION_ID}
use Rattle.base_codes.specs.declared.command_code.CommandCode.TheVariants.{CapabilitiesExchange}
use Rattle.base_codes.specs.declared.length.TheConstants.{HEADER_LEN}
use Rattle.base_codes.specs.declared.peer_fact.TheConstants.{LOCAL_WINS}
use Rattle.base_codes.specs.declared.result_code.ResultCode.TheVariants.{Success, CommandUnsupported, UnknownPeer}
use Rattle.base_codes.specs.declared.result_code.ResultCode.TheVariants.{NoCommonApplication, UnableToComply}
use Rattle.bench_item.specs.declared.hears.Heard.{Heard}
use Rattle.bench_item.specs.declared.hears.Turn.{Turn}
use Rattle.bench_item.specs.declared.item.Item.{Item}
use Rattle.bench_item.specs.declared.opening.Opening.{Opening}
use Rattle.bench_item.specs.declared.opening.Opening.TheVariants.{Accepted, Dialled}
use Rattle.charge_facts.specs.Answers.{answer_places}
use Rattle.charge_facts.specs.Places.{places_of}
use Rattle.charge_facts.specs.Requests.{facts_of_request}
use Rattle.dia_avp.specs.declared.avp.Avp.{Avp}
use Rattle.dia_avp.specs.Reading.{avps_in}
use Rattle.dia_avp.specs.Look.{number_in, is_coded}
use Rattle.dia_command.specs.declared.command.CapabilitiesExchangeRequest.{CapabilitiesExchangeRequest}
use Rattle.dia_command.specs.declared.command.Command.{Command}
use Rattle.dia_command.specs.declared.command.Command.TheVariants.{Cer, Cea, Rar, Ccr, Cca, ErrorAnswer}
use Rattle.dia_command.specs.Header.{header_in}
use Rattle.dia_tree.specs.Faults.{fault}
use Rattle.dia_tree.specs.declared.fault.MsgFault.{MsgFault}
use Rattle.msg_meaning.specs.Meaning.{meaning}
use Rattle.peer_rules.specs.Election.{lowered}
use Rattle.peer_rules.specs.Events.{event_place}
use Rattle.line_message.specs.Answers.{answer_octets}
use Rattle.line_message.specs.Greater.{is_greater}
use Rattle.line_message.specs.Hearing.{Hearing}
use Rattle.line_message.specs.Posts.{at_line, event_for, has_line, named, of_message, peer_of, side_of}

-- nothing comes of a message
abbrev pub silent : Turn
silent = record { post = None; answer = []; greeted = None; closes = false }

-- something is put out, or nothing
abbrev pub posting : Option Item → Turn
posting post = record { post = post; answer = []; greeted = None; closes = false }

-- a message is put out that greets the connection, for the peer whose machine has that number
abbrev pub greeting : ℕ → Option Item → Turn
greeting peer post = record { post = post; answer = []; greeted = Some peer; closes = false }

-- the connection answers by itself
abbrev pub answering : List ℕ → Turn
answering octets = record { post = None; answer = octets; greeted = None; closes = false }

-- it answers by itself, or not, and closes
abbrev pub closing : List ℕ → Turn
closing octets = record { post = None; answer = octets; greeted = None; closes = true }

-- an accepted connection that is not greeted

-- whether an application is credit control, or a relay's, which has all (RFC 6733 section 2.4)
abbrev pub is_shared : ℕ → Bool
is_shared id = (id == CREDIT_CONTROL) || (id == RELAY)

-- whether an AVP is an Auth-Application-Id of such an application
abbrev pub is_application : Avp → Bool
is_application a = is_coded AUTH_APPLICATION_ID a && option_map_or is_shared (number_in 4 a.octets) false

-- whether an AVP is a Vendor-Specific-Application-Id that holds such an AVP, whatever else it holds
abbrev pub is_sharing : Avp → Bool
is_sharing a = is_coded VENDOR_SPECIFIC_APPLICATION_ID a && list_any is_application (avps_in a.octets).0

-- whether a CER names such an application in an AVP of its own, inside a Vendor-Specific-Application-Id, or in either
abbrev pub shares_plain : CapabilitiesExchangeRequest → Bool
shares_plain c = list_any (λ id. is_shared id.value) c.auth_application_id

abbrev pub shares_inside : CapabilitiesExchangeRequest → Bool
shares_inside c = list_any is_sharing c.rest

unfoldable pub shares : CapabilitiesExchangeRequest → Bool
shares c = shares_plain c || shares_inside c

-- 1 where the local host wins an election against the sender of a CER (section 5.6.4)
unfoldable pub wins : List ℕ → List ℕ → ℕ
wins local remote = if is_greater (lowered local) (lowered remote) then 1 else 0

-- a good CER: R-Conn-CER for the machine of its sender
unfoldable pub accepted : Hearing → Heard → List ℕ → List ℕ → ℕ → Turn
accepted l at octets host peer =
    greeting peer (event_for l peer (named (codes "R-Conn-CER"))
    (slice_set (at_line peer at.line (of_message (header_in octets))) LOCAL_WINS (wins l.identity.host host))
    None [])

-- a CER: of a host that is no peer's 3010, without a shared application 5010, both closing
abbrev pub cer_by : Hearing → Heard → List ℕ → CapabilitiesExchangeRequest → Option ℕ → Turn
cer_by l at octets c None = closing (answer_octets l.identity octets (fault UnknownPeer None))
cer_by l at octets c (Some peer) =
    if shares c then accepted l at octets c.origin_host.value peer
    else closing (answer_octets l.identity octets (fault NoCommonApplication None))

-- whether the header is that of a CER
abbrev pub is_cer : List ℕ → Bool
is_cer octets =
    ((header_in octets).command == number_of_command CapabilitiesExchange) && (header_in octets).flags.request

-- the first message must be a CER: a faulty one is answered with its fault, any other message is not answered, faulty
-- or not; after all these the connection closes
abbrev pub first_by : Hearing → Heard → List ℕ → Result Command MsgFault → Turn
first_by l at octets (Ok (Cer c)) = cer_by l at octets c (peer_of l c.origin_host.value)
first_by l at octets (Ok c) = closing []
first_by l at octets (Err f) = closing (if is_cer octets then answer_octets l.identity octets f else [])

-- a dialled connection that is not greeted

-- whether a message is a CEA with success
abbrev pub is_welcome : Result Command MsgFault → Bool
is_welcome (Ok (Cea c)) = c.result_code.value == number_of_result Success
is_welcome message = false

-- an event of a message on such a connection, for the dialled peer
unfoldable pub reply : Hearing → Heard → List ℕ → ℕ → List ℕ → Option Item
reply l at octets peer name =
    event_for l peer (named name) (at_line peer at.line (of_message (header_in octets)))
    (Some (has_line (side_of at.opening) at.line)) []

-- a CEA with success greets the connection; any other message, faulty ones too, does not
abbrev pub reply_by : Hearing → Heard → List ℕ → ℕ → Result Command MsgFault → Turn
reply_by l at octets peer message =
    if is_welcome message then greeting peer (reply l at octets peer (codes "I-Rcv-CEA"))
    else posting (reply l at octets peer (codes "I-Rcv-Non-CEA"))

-- a greeted connection

-- the facts of a message: of credit control those that a session wants, of any other its identifiers
abbrev pub message_facts : Hearing → List ℕ → Command → List ℕ
message_facts l octets (Ccr c) = places_of (facts_of_request c l.default_units)
message_facts l octets c = unwrap_or (answer_places c) (of_message (header_in octets))

-- the Session-Id that a message hands on, without octets where it has none
abbrev pub session_of : Command → List ℕ
session_of (Ccr c) = c.session_id.value
session_of (Cca c) = c.session_id.value
session_of (ErrorAnswer c) = option_map_or (λ s. s.value) c.session_id []
session_of c = []

-- the event that a message is for the peer's machine, where it is one
unfoldable pub message : Hearing → Heard → List ℕ → ℕ → Command → Option Item
message l at octets peer c =
    event_for l peer (event_place c (side_of at.opening)) (at_line peer at.line (message_facts l octets c))
    (Some (has_line (side_of at.opening) at.line)) (session_of c)

-- the connection itself answers a CER 5012, a RAR 3001 and a faulty request its fault; a CEA and a faulty answer are
-- dropped
abbrev pub greeted_by : Hearing → Heard → List ℕ → ℕ → Result Command MsgFault → Turn
greeted_by l at octets peer (Ok (Cer c)) = answering (answer_octets l.identity octets (fault UnableToComply None))
greeted_by l at octets peer (Ok (Rar c)) = answering (answer_octets l.identity octets (fault CommandUnsupported None))
greeted_by l at octets peer (Ok (Cea c)) = silent
greeted_by l at octets peer (Ok c) = posting (message l at octets peer c)
greeted_by l at octets peer (Err f) =
    answering (if (header_in octets).flags.request then answer_octets l.identity octets f else [])

-- by whether it is greeted, and by whom, and else by who opened it
abbrev pub heard_by : Hearing → Heard → List ℕ → Result Command MsgFault → Option ℕ → Opening → Turn
heard_by l at octets message (Some peer) opening = greeted_by l at octets peer message
heard_by l at octets message None Accepted = first_by l at octets message
heard_by l at octets message None (Dialled peer generation) = reply_by l at octets peer message

-- nothing comes of fewer octets than a header has: they are no message
unfoldable pub heard : Hearing → Heard → List ℕ → Turn
heard l at octets =
    if nat_lt (length octets) HEADER_LEN then silent
    else heard_by l at octets (meaning l.dictionary octets) at.greeted at.opening
