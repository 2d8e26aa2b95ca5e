-- The event that a command is for a peer's machine.
use Rattle.std.specs.Prelude.{ℕ, ◌==◌, ◌&&◌, ◌++◌, if◌then◌else◌, Bool, List, Option, Some, None, codes, is_some}
use Rattle.std.specs.Option.{option_and_then}
use Rattle.base_codes.specs.declared.command_code.CommandCode.TheVariants.{CreditControl}
use Rattle.base_codes.specs.CommandCodes.{number_of}
use Rattle.base_list.specs.Named.{place_of}
use Rattle.dia_command.specs.declared.command.Command.{Command}
use Rattle.dia_command.specs.declared.command.ErrorAnswer.{ErrorAnswer as Answer}
use Rattle.dia_command.specs.declared.command.Command.TheVariants.{Cer, Cea, Dwr, Dwa, Dpr, Dpa, Ccr, Cca, ErrorAnswer}
use Rattle.peer_rules.specs.declared.event.Side.{Side}
use Rattle.peer_rules.specs.declared.event.Side.TheVariants.{I, R}
use Rattle.peer_rules.specs.Kinds.{kinds}

-- the name of a kind that comes from either side
abbrev pub from_side : Side → List ℕ → Option (List ℕ)
from_side I name = Some (codes "I-Rcv-" ++ name)
from_side R name = Some (codes "R-Rcv-" ++ name)

-- whether an error answer is one of credit control with a Session-Id
abbrev pub is_message : Answer → Bool
is_message c = (c.header.command == number_of CreditControl) && is_some c.session_id

-- the name of the kind that a command is (RFC 6733 section 5.6.2);
-- a CEA is one with success or another, and of the error answers those of credit control with a Session-Id are messages
abbrev pub event_name : Command → Side → Option (List ℕ)
event_name (Dwr c) side = from_side side (codes "DWR")
event_name (Dwa c) side = from_side side (codes "DWA")
event_name (Dpr c) side = from_side side (codes "DPR")
event_name (Dpa c) side = from_side side (codes "DPA")
event_name (Ccr c) side = from_side side (codes "Message")
event_name (Cca c) side = from_side side (codes "Message")
event_name (ErrorAnswer c) side = if is_message c then from_side side (codes "Message") else None
event_name (Cer c) R = Some (codes "R-Conn-CER")
event_name (Cea c) I = if c.result_code.value == 2001 then Some (codes "I-Rcv-CEA") else Some (codes "I-Rcv-Non-CEA")
event_name command side = None

-- the place of its kind in the laws of a peer's machine
abbrev pub event_place : Command → Side → Option ℕ
event_place command side = option_and_then (λ name. place_of name kinds) (event_name command side)
