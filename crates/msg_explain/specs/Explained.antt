-- What is said of a message: its line, a line for each AVP, and the line of its fault, where it has one.
use Rattle.std.specs.Prelude.{◌≡◌, ℕ, ◌++◌, Bool, true, false, List, [], Option, Result, Ok, Err}
use Rattle.std.specs.List.{flat_map}
use Rattle.dia_dict.specs.declared.definition.Definition.{Definition}
use Rattle.dia_show.specs.Glossary.{Naming}
use Rattle.dia_tree.specs.declared.fault.MsgFault.{MsgFault}
use Rattle.dia_command.specs.declared.command.Command.{Command}
use Rattle.dia_msg.specs.Reading.{IsReading}
use Rattle.msg_explain.specs.Parts.{message_parts}
use Rattle.msg_explain.specs.Lines.{part_line}
use Rattle.msg_explain.specs.Messages.{message_line}
use Rattle.msg_explain.specs.Faulty.{fault_line}

-- the line of the fault that a message is read as, nothing for a command
abbrev pub fault_lines : List Definition → Option ℕ → ℕ → ℕ → List ℕ → Result Command MsgFault → List ℕ
fault_lines definitions line number offset octets (Ok command) = []
fault_lines definitions line number offset octets (Err f) =
    fault_line definitions line number offset (message_parts definitions octets) f

-- the lines of the AVPs of a message, in the order of the octets, groups opened
unfoldable pub avp_lines : List Naming → List Definition → List ℕ → List ℕ
avp_lines namings definitions octets = flat_map (part_line namings definitions) (message_parts definitions octets)

-- what is said of a message, the `number`th of an input,
-- which begins at an octet of it or of the line in which it stands, by what it is read as
abbrev pub explained : List Naming → List Definition → Option ℕ → ℕ → ℕ → List ℕ → Result Command MsgFault → List ℕ
explained namings definitions line number offset octets answer =
    message_line line number offset octets ++ avp_lines namings definitions octets
    ++ fault_lines definitions line number offset octets answer

-- whether an answer is a fault
abbrev pub is_fault : Result Command MsgFault → Bool
is_fault (Ok command) = false
is_fault (Err f) = true

-- The line of the fault that a message is read as, and whether it is one.
pub record Concludes (definitions : List Definition) (line : Option ℕ) (number offset : ℕ) (octets text : List ℕ)
    (refused : Bool) : Type 0 where
  pub answer : Result Command MsgFault
  pub reading : IsReading definitions octets answer
  pub said : text ≡ fault_lines definitions line number offset octets answer
  pub is_refused : refused ≡ is_fault answer

-- A text is what is said of a message by what it is read as (RFC 6733 sections 3, 4 and 7),
-- and whether that is a fault.
pub record Explains (namings : List Naming) (definitions : List Definition) (line : Option ℕ) (number offset : ℕ)
    (octets text : List ℕ) (refused : Bool) : Type 0 where
  pub answer : Result Command MsgFault
  pub reading : IsReading definitions octets answer
  pub said : text ≡ explained namings definitions line number offset octets answer
  pub is_refused : refused ≡ is_fault answer
