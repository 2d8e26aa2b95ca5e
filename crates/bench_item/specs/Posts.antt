-- What a deed posts: the items that its machine's shard puts out.
use Rattle.std.specs.Prelude.{ℕ, ◌==◌, ◌&&◌, not, Bool, List, [], ◌∷◌, length, replicate, codes, slice_index, slice_set}
use Rattle.std.specs.Prelude.{Option, Some, None, is_some, option_map, option_to_list, if◌then◌else◌}
use Rattle.std.specs.Option.{option_map_or}
use Rattle.base_codes.specs.declared.deed_code.DeedCode.{DeedCode}
use Rattle.base_codes.specs.declared.deed_code.DeedCode.TheVariants as deeds
use Rattle.base_codes.specs.DeedCodes.{coded}
use Rattle.base_codes.specs.declared.peer_register.TheConstants.{R_LINE}
use Rattle.base_codes.specs.ResultCodes.{number_of}
use Rattle.base_codes.specs.declared.message_class.TheConstants.{REQUEST, ANSWER, FAULT}
use Rattle.base_codes.specs.declared.result_code.ResultCode.TheVariants.{TooBusy}
use Rattle.base_codes.specs.declared.session_fact.TheConstants.{PEER, LINE, HOP_BY_HOP, END_TO_END, CLASS}
use Rattle.base_codes.specs.declared.session_fact.TheConstants.{REQUEST_TYPE, REQUEST_NUMBER, RESULT_CODE}
use Rattle.base_list.specs.Named.{place_of}
use Rattle.tab_law.specs.Books.{Laws}
use Rattle.tab_law.specs.declared.limits.TheConstants.{PLACES}
use Rattle.tab_law.specs.declared.scene.Deed.{Deed}
use Rattle.tab_step.specs.Moves.{is_kind_of}
use Rattle.bench_item.specs.declared.key.Key.{Key}
use Rattle.bench_item.specs.declared.key.Role.{Role}
use Rattle.bench_item.specs.declared.key.Role.TheVariants.{Peer, Client, Server}
use Rattle.bench_item.specs.declared.item.Condition.{Condition}
use Rattle.bench_item.specs.declared.item.MachineItem.{MachineItem}
use Rattle.bench_item.specs.declared.item.Item.{Item}
use Rattle.bench_item.specs.declared.item.Item.TheVariants.{ToMachine, ToLine, Dial, Undial, Arm, Disarm}
use Rattle.bench_item.specs.Keys.{Configured, Node, key_of, numbered, peer_numbered, peers_of}

-- whose deed it is: the key and the number of the machine, and of its event the kind and the Session-Id that it handed
-- on
pub record Doer : Type 0 where
  pub key : Key
  pub machine : ℕ
  pub kind : ℕ
  pub session : List ℕ

-- the Session-Id that a deed hands on: a session's own name, and of a peer's machine that of its event
abbrev pub handed_on : Doer → List ℕ
handed_on doer = by doer.key.role
  where
    by : Role → List ℕ
    by Peer = doer.session
    by role = doer.key.name

abbrev pub has_session : Doer → Bool
has_session doer = not (length (handed_on doer) == 0)

-- zeros at all places
abbrev pub no_facts : List ℕ
no_facts = replicate PLACES 0

-- an event for a machine
abbrev pub machine_item : Key → List ℕ → Option Condition → List ℕ → ℕ → Item
machine_item key facts condition session kind =
    ToMachine (record {
      key = key;
      event = record { kind = kind; facts = facts };
      condition = condition;
      session = session;
    })

-- an event of that name for a machine, nothing where the book has no such kind
abbrev pub event_for : Node → Key → List ℕ → List ℕ → Option Condition → List ℕ → List Item
event_for node key name facts condition session =
    option_to_list (option_map (machine_item key facts condition session) (place_of name node.laws.kinds))

-- a message of credit control, for the peer whose machine has that number: nothing where no peer's has
abbrev pub to_peer : Node → ℕ → List ℕ → List ℕ → List Item
to_peer node number facts session =
    option_map_or
    (λ host. event_for node (key_of Peer host) (codes "Send-Message") facts None session)
    (peer_numbered node number)
    []

-- the event that a request is for a server's session, by its CC-Request-Type (RFC 8506 section 8.3)
abbrev pub request_kind : ℕ → Option (List ℕ)
request_kind type =
    if type == 1 then Some (codes "Initial")
    else (if type == 2 then Some (codes "Update")
    else (if type == 3 then Some (codes "Terminate")
    else (if type == 4 then Some (codes "Event") else None)))

-- the event that an answer is for a client's session, by the CC-Request-Type that it repeats
abbrev pub answer_kind : ℕ → Option (List ℕ)
answer_kind type =
    if type == 1 then Some (codes "CCA-I")
    else (if type == 2 then Some (codes "CCA-U")
    else (if type == 3 then Some (codes "CCA-T")
    else (if type == 4 then Some (codes "CCA-E") else None)))

-- the role and the event of a message of credit control, by its class: a request, an answer, or an answer that tells a
-- fault
abbrev pub session_event : ℕ → ℕ → Option (Role × List ℕ)
session_event class type =
    if class == REQUEST then option_map (λ name. (Server, name)) (request_kind type)
    else (if class == ANSWER then option_map (λ name. (Client, name)) (answer_kind type)
    else (if class == FAULT then Some (Client, codes "CCA-Fault") else None))

-- the event of a message with these facts, for the session of that name
abbrev pub to_session : Node → List ℕ → List ℕ → List Item
to_session node session facts =
    option_map_or
    (λ e. event_for node (key_of e.0 session) e.1 facts None session)
    (session_event (slice_index facts CLASS) (slice_index facts REQUEST_TYPE))
    []

-- whether a message of credit control can be made of these arguments
abbrev pub is_message : List ℕ → Bool
is_message a = is_some (session_event (slice_index a CLASS) (slice_index a REQUEST_TYPE))

-- the deed itself, for the line that argument 1 names
abbrev pub to_line : Doer → Deed → List Item
to_line doer deed = ToLine (record { line = slice_index deed.a LINE; deed = deed; session = handed_on doer }) ∷ []

-- whether an event that no row of its peer's table took was a request of a session
abbrev pub is_unsent : Laws → Doer → Deed → Bool
is_unsent laws doer deed =
    is_kind_of laws doer.kind (codes "Send-Message") && (slice_index deed.a CLASS == REQUEST) && has_session doer

-- its session is told that it was not sent
abbrev pub unsent_posts : Node → Doer → Deed → List Item
unsent_posts node doer deed =
    if is_unsent node.laws doer deed
    then event_for node (key_of Client (handed_on doer)) (codes "Send-Fail") deed.a None (handed_on doer)
    else []

-- a message for the machine of the session that the deed hands on
abbrev pub session_posts : Node → Doer → Deed → List Item
session_posts node doer deed = if has_session doer then to_session node (handed_on doer) deed.a else []

-- a message of credit control for a line, where one can be made of the arguments
abbrev pub message_posts : Doer → Deed → List Item
message_posts doer deed = if has_session doer && is_message deed.a then to_line doer deed else []

-- a connection to the peer whose machine has that number
abbrev pub dial_posts : Configured → Deed → List Item
dial_posts peers deed =
    if is_some (numbered peers (slice_index deed.a 0)) then Dial (slice_index deed.a 0) (slice_index deed.a 1) ∷ []
    else []

-- the machine keeps that line as its own
abbrev pub keeps_line : ℕ → Condition
keeps_line line = record { register = R_LINE; value = line }

-- the election is won (RFC 6733 section 5.6.4), for as long as the machine keeps that line; what its event handed on is
-- handed on
abbrev pub elect_posts : Node → Doer → Deed → List Item
elect_posts node doer deed =
    if slice_index deed.a 0 == 1
    then event_for node doer.key (codes "Win-Election") no_facts (Some (keeps_line (slice_index deed.a 1)))
    (handed_on doer)
    else []

-- what a deed posts, by its name and its arguments; deeds of the book, Service and codes without a name post nothing
abbrev pub posts_by : Node → Doer → Deed → DeedCode → List Item
posts_by node doer deed deeds.Unlisted = unsent_posts node doer deed
posts_by node doer deed deeds.ToPeer = to_peer node (slice_index deed.a PEER) deed.a (handed_on doer)
posts_by node doer deed deeds.ToSession = session_posts node doer deed
posts_by node doer deed deeds.Close = to_line doer deed
posts_by node doer deed deeds.Dial = dial_posts (peers_of node) deed
posts_by node doer deed deeds.Undial = Undial (slice_index deed.a 0) (slice_index deed.a 1) ∷ []
posts_by node doer deed deeds.Arm = Arm doer.machine (slice_index deed.a 0) (slice_index deed.a 1) ∷ []
posts_by node doer deed deeds.Disarm = Disarm doer.machine ∷ []
posts_by node doer deed deeds.SndCer = to_line doer deed
posts_by node doer deed deeds.SndCea = to_line doer deed
posts_by node doer deed deeds.SndDwa = to_line doer deed
posts_by node doer deed deeds.SndDpr = to_line doer deed
posts_by node doer deed deeds.SndDpa = to_line doer deed
posts_by node doer deed deeds.SndMsg = message_posts doer deed
posts_by node doer deed deeds.Elect = elect_posts node doer deed
posts_by node doer deed code = []

abbrev pub posts_of : Node → Doer → Deed → List Item
posts_of node doer deed = option_map_or (posts_by node doer deed) (coded deed.code) []

-- the facts of the answer TOO_BUSY to a request (RFC 6733 section 7.1.3)
abbrev pub busy_facts : List ℕ → List ℕ
busy_facts f =
    slice_set (slice_set (slice_set (slice_set (slice_set (slice_set (slice_set no_facts
    LINE (slice_index f LINE)) HOP_BY_HOP (slice_index f HOP_BY_HOP)) END_TO_END (slice_index f END_TO_END))
    CLASS FAULT) REQUEST_TYPE (slice_index f REQUEST_TYPE)) REQUEST_NUMBER (slice_index f REQUEST_NUMBER))
    RESULT_CODE (number_of TooBusy)

-- what is posted for an item whose session finds no room: a request is answered so, all else is dropped
abbrev pub busy_posts : Node → MachineItem → List Item
busy_posts node item = by item.key.role
  where
    by : Role → List Item
    by Server =
        if slice_index item.event.facts CLASS == REQUEST
        then to_peer node (slice_index item.event.facts PEER) (busy_facts item.event.facts) item.key.name
        else []
    by role = []
