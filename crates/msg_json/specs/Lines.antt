-- Lines of JSON.
use Rattle.std.specs.Prelude.{◌≡◌, ◌++◌, ℕ, Bool, List, codes, Result}
use Rattle.json.specs.Lex.{tokens}
use Rattle.json.specs.Print.{print}
use Rattle.dia_dict.specs.declared.definition.Definition.{Definition}
use Rattle.dia_tree.specs.declared.fault.MsgFault.{MsgFault}
use Rattle.dia_command.specs.declared.command.Command.{Command}
use Rattle.dia_msg.specs.Reading.{IsReading}
use Rattle.msg_explain.specs.Explained.{is_fault}

-- A text is a line: tokens of JSON with nothing between them (RFC 8259 section 2), and the end of the line.
pub record IsLine (text : List ℕ) : Type 0 where
  pub line : List ℕ
  pub compact : line ≡ print (tokens line)
  pub whole : text ≡ line ++ codes "\n"

-- A text is a line for a message, and whether the message is read as a fault.
pub record SaysInJson (definitions : List Definition) (octets text : List ℕ) (refused : Bool) : Type 0 where
  pub answer : Result Command MsgFault
  pub reading : IsReading definitions octets answer
  pub is_refused : refused ≡ is_fault answer
  pub is_line : IsLine text
