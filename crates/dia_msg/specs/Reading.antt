-- What the octets of a message mean: a command, or the first fault.
use Rattle.std.specs.Prelude.{◌≡◌, ℕ, List, [], ◌∷◌, length, drop, Some, Result, Ok, Err}
use Rattle.dia_avp.specs.declared.avp.Avp.{Avp}
use Rattle.dia_avp.specs.Avps.{Avps}
use Rattle.dia_dict.specs.declared.definition.Definition.{Definition}
use Rattle.dia_tree.specs.declared.fault.MsgFault.{MsgFault}
use Rattle.dia_tree.specs.View.{HasLongData}
use Rattle.dia_tree.specs.Canonical.{IsCanonical, AreEach}
use Rattle.dia_command.specs.declared.command.Command.{Command}
use Rattle.dia_command.specs.Header.{header_in}
use Rattle.dia_command.specs.Field.{Field, IsFieldOf}
use Rattle.dia_command.specs.Command.{kind_of, header_of, rest_of, fields, with_length}
use Rattle.dia_write.specs.Encoding.{encode}
use Rattle.dia_msg.specs.declared.fault.MsgError.{MsgError}
use Rattle.dia_msg.specs.declared.fault.MsgError.TheVariants as msg_errors
use Rattle.dia_msg.specs.Taken.{groups, untaken}
use Rattle.dia_msg.specs.Faults.{kind_read, format_read, HasFaults}

-- fields are those of AVPs, each of what its entry of the format takes
abbrev pub AreFields : List Definition → List Field → List (List Avp) → Type 0
AreFields definitions [] [] = Unit {0}
AreFields definitions (field ∷ fields) (group ∷ groups) =
    IsFieldOf definitions field group × AreFields definitions fields groups
AreFields definitions fields groups = ⊥

-- a message means a command: its kind, its header, its fields by what the format takes of the AVPs, and as rest those
-- that no entry takes, each in its canonical encoding
pub record Means (definitions : List Definition) (octets : List ℕ) (command : Command) : Type 0 where
  pub avps : List Avp
  pub whole : Avps (drop 20 octets) avps
  pub kind : kind_read (header_in octets) avps ≡ Some (kind_of command)
  pub header : header_of command ≡ header_in octets
  pub fields_are : AreFields definitions (fields command) (groups (format_read (header_in octets) avps) avps)
  pub rest : AreEach (IsCanonical definitions 4) (untaken (format_read (header_in octets) avps) avps) (rest_of command)

-- what the octets of a message are read as: their first fault where they have one, and else the command that they mean
abbrev pub IsReading : List Definition → List ℕ → Result Command MsgFault → Type 0
IsReading definitions octets (Ok command) = HasFaults definitions octets [] × Means definitions octets command
IsReading definitions octets (Err f) = (later : List MsgFault) × HasFaults definitions octets (f ∷ later)

-- they are read as nothing else
abbrev pub IsOnlyReading : List Definition → List ℕ → Result Command MsgFault → Type 0
IsOnlyReading definitions octets answer =
    (other : Result Command MsgFault) → IsReading definitions octets other → other ≡ answer

-- the command's encoding is read as this command, but for the length field, which is the encoding's length
abbrev pub IsReadAgain : List Definition → Command → Type 0
IsReadAgain definitions command =
    IsReading definitions (encode command) (Ok (with_length (length (encode command)) command))

-- what a call answered has this property, unless memory ran out
abbrev pub UnlessNoMemory : Result Command MsgError → (Result Command MsgFault → Type 0) → Type 0
UnlessNoMemory (Ok command) P = P (Ok command)
UnlessNoMemory (Err msg_errors.NoMemory) P = Unit {0}
UnlessNoMemory (Err (msg_errors.Fault f)) P = P (Err f)

-- memory may run out only over octets that have no fault, or whose first fault has a failed AVP with more than 32
-- octets of data
abbrev pub MayNeedMemory : List Definition → List ℕ → Type 0
MayNeedMemory definitions octets = (f : MsgFault) → IsReading definitions octets (Err f) → HasLongData f.failed
