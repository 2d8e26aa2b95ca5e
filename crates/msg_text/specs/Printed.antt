-- What is printed of the octets of a message.
use Rattle.std.specs.Prelude.{◌≡◌, ◌⊎◌, ℕ, ◌^◌, ◌≤◌, Bool, true, false, List, [], Option, Some, None, Result, Ok, Err}
use Rattle.dia_avp.specs.declared.avp.Avp.{Avp}
use Rattle.dia_avp.specs.Encoding.{length_of, encoded}
use Rattle.dia_dict.specs.Dictionary.{known}
use Rattle.dia_dict.specs.declared.definition.Definition.{Definition}
use Rattle.dia_command.specs.declared.command.Command.{Command}
use Rattle.dia_tree.specs.declared.fault.MsgFault.{MsgFault}
use Rattle.base_codes.specs.ResultCodes.{number_of}
use Rattle.dia_command.specs.Command.{header_of}
use Rattle.dia_msg.specs.Reading.{IsReading}
use Rattle.dia_write.specs.Encoding.{IsTooLong, encode}
use Rattle.msg_text.specs.Lines.{MessageText, fault_line}

-- the octets that are printed of a command: its encoding, and none where 24 bits don't hold its length
abbrev pub IsPrintedEncoding : Command → List ℕ → Type 0
IsPrintedEncoding command octets = (octets ≡ encode command) ⊎ (IsTooLong command × (octets ≡ []))

-- the octets that are printed of a failed AVP: likewise, and none where there is no failed AVP
abbrev pub IsPrintedAvp : Option Avp → List ℕ → Type 0
IsPrintedAvp None octets = octets ≡ []
IsPrintedAvp (Some a) octets = (octets ≡ encoded a) ⊎ ((2 ^ 24 ≤ length_of a) × (octets ≡ []))

-- the lines of a command
pub record CommandText (command : Command) (text : List ℕ) : Type 0 where
  pub octets : List ℕ
  pub encoding : IsPrintedEncoding command octets
  pub lines : MessageText (header_of command) octets text

-- the line of a fault
pub record FaultText (f : MsgFault) (text : List ℕ) : Type 0 where
  pub octets : List ℕ
  pub failed : IsPrintedAvp f.failed octets
  pub line : text ≡ fault_line (number_of f.result) octets

-- what is printed of an answer, and whether it is a fault
abbrev pub AnswerText : Result Command MsgFault → List ℕ → Bool → Type 0
AnswerText (Ok command) text refused = CommandText command text × (refused ≡ false)
AnswerText (Err f) text refused = FaultText f text × (refused ≡ true)

-- what is printed of the octets of a message, by what they are read as with these definitions added to the dictionary
pub record Prints (added : List Definition) (octets text : List ℕ) (refused : Bool) : Type 0 where
  pub answer : Result Command MsgFault
  pub reading : IsReading (known added) octets answer
  pub printed : AnswerText answer text refused
