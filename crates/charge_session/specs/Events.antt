-- The event that a command of credit control is for a session's machine (RFC 8506 sections 3 and 7).
use Rattle.std.specs.Prelude.{ℕ, List, Option, None, codes}
use Rattle.std.specs.Option.{option_map, option_and_then}
use Rattle.base_list.specs.Named.{place_of}
use Rattle.dia_command.specs.declared.command.Command.{Command}
use Rattle.dia_command.specs.declared.command.Command.TheVariants.{Ccr, Cca}
use Rattle.dia_command.specs.declared.value.RequestType.{RequestType}
use Rattle.dia_command.specs.declared.value.RequestType.TheVariants as type
use Rattle.tab_step.specs.declared.machine.Event.{Event}
use Rattle.charge_facts.specs.Places.{places_of}
use Rattle.charge_facts.specs.Requests.{facts_of_request}
use Rattle.charge_facts.specs.Answers.{answer_places}
use Rattle.server_rules.specs.Kinds.{kinds as server_kinds}
use Rattle.client_rules.specs.Kinds.{kinds as client_kinds}

-- the name of the kind that a request is, by its CC-Request-Type (RFC 8506 section 8.3)
abbrev pub server_name : RequestType → List ℕ
server_name type.Initial = codes "Initial"
server_name type.Update = codes "Update"
server_name type.Termination = codes "Terminate"
server_name type.Event = codes "Event"

-- the event with these facts whose kind has that place
abbrev pub with_facts : List ℕ → ℕ → Event
with_facts facts kind = record { kind = kind; facts = facts }

-- a Credit-Control-Request is an event of a server's session, and no other command is one
abbrev pub server_event : Command → ℕ → Option Event
server_event (Ccr c) default =
    option_map (with_facts (places_of (facts_of_request c default)))
    (place_of (server_name c.cc_request_type.value) server_kinds)
server_event command default = None

-- the name of the kind that an answer is, by the CC-Request-Type that it repeats
abbrev pub answer_name : RequestType → List ℕ
answer_name type.Initial = codes "CCA-I"
answer_name type.Update = codes "CCA-U"
answer_name type.Termination = codes "CCA-T"
answer_name type.Event = codes "CCA-E"

-- the name of the kind that a command is for a client: an answer by its type, and else a fault
abbrev pub client_name : Command → List ℕ
client_name (Cca c) = answer_name c.cc_request_type.value
client_name command = codes "CCA-Fault"

-- an answer of credit control is an event of a client's session, one that tells a fault too,
-- and no other command is one
abbrev pub client_event : Command → Option Event
client_event command =
    option_and_then (λ facts. option_map (with_facts facts) (place_of (client_name command) client_kinds))
    (answer_places command)
