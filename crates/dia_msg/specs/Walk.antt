-- The faults of a message as functions on lists, which reading code is proved against, and what its steps say.
use Rattle.std.specs.Prelude.{◌≡◌, ℕ, List, [], ◌++◌, drop, map, slice_get, Option, Some, Result, Ok, Err}
use Rattle.dia_avp.specs.declared.avp.Avp.{Avp}
use Rattle.dia_avp.specs.Reading.{avps_in}
use Rattle.dia_avp.specs.Look.{first_number}
use Rattle.dia_dict.specs.declared.definition.Definition.{Definition}
use Rattle.dia_tree.specs.declared.fault.MsgFault.{MsgFault}
use Rattle.dia_tree.specs.View.{HasLongData}
use Rattle.dia_tree.specs.Faults.{group_faults}
use Rattle.dia_dict.specs.Dictionary.{known}
use Rattle.dia_command.specs.declared.command.Command.{Command}
use Rattle.dia_command.specs.declared.header.Header.{Header}
use Rattle.dia_command.specs.declared.kind.CommandKind.{CommandKind}
use Rattle.dia_command.specs.Header.{header_in}
use Rattle.dia_msg.specs.declared.fault.MsgError.{MsgError}
use Rattle.dia_msg.specs.declared.fault.MsgError.TheVariants as msg_errors
use Rattle.dia_command.specs.Format.{format_of}
use Rattle.dia_msg.specs.Taken.{missing}
use Rattle.dia_msg.specs.Faults.{header_faults, is_event, kind_read, format_read, instances, missing_faults}
use Rattle.dia_msg.specs.Faults.{services_faults}
use Rattle.dia_msg.specs.Sorting.{IsSorted}
use Rattle.dia_msg.specs.Source.{IsBuilt}
use Rattle.dia_msg.specs.declared.sorting.Sorted.{Sorted}

-- the whole AVPs of a message, behind its header
abbrev pub whole_avps : List ℕ → List Avp
whole_avps octets = (avps_in (drop 20 octets)).0

-- the groups of instances
abbrev pub groups_in : List Avp → List (Option ℕ)
groups_in list = map (λ a. first_number 432 (avps_in a.octets).0) list

-- the faults by the AVPs of a message
abbrev pub faults_by : List Definition → List ℕ → List Avp → List MsgFault
faults_by definitions octets list =
    header_faults octets
    ++ (group_faults definitions (is_event (header_in octets) list) 5 (drop 20 octets)
    ++ (missing_faults definitions (format_read (header_in octets) list) list
    ++ services_faults (is_event (header_in octets) list) (groups_in (instances (header_in octets) list))))

-- all faults of a message
abbrev pub faults : List Definition → List ℕ → List MsgFault
faults definitions octets = faults_by definitions octets (whole_avps octets)

-- the error for a fault: memory may run out for its failed AVP's data where they are more than 32 octets
abbrev pub IsErrorOf : MsgFault → MsgError → Type 0
IsErrorOf f msg_errors.NoMemory = HasLongData f.failed
IsErrorOf f (msg_errors.Fault g) = g ≡ f

-- the faults after those of the header and of the AVPs
abbrev pub later_faults : List Definition → Header → List Avp → List MsgFault
later_faults definitions header list =
    missing_faults definitions (format_read header list) list
    ++ services_faults (is_event header list) (groups_in (instances header list))

-- what is made of the AVPs of a message where header and AVPs have no fault: the first of the other faults, or the
-- command
abbrev pub IsOutcome : List Definition → Header → List Avp → Result Command MsgError → Type 0
IsOutcome added header list (Ok c) =
    (later_faults (known added) header list ≡ []) × (kind : CommandKind) × (kind_read header list ≡ Some kind)
    × IsBuilt added (format_read header list) list kind header c
IsOutcome added header list (Err msg_errors.NoMemory) =
    (f : MsgFault) → slice_get (later_faults (known added) header list) 0 ≡ Some f → HasLongData f.failed
IsOutcome added header list (Err (msg_errors.Fault f)) = slice_get (later_faults (known added) header list) 0 ≡ Some f

-- the AVPs of a message have none of the other faults; they are read as a kind, and sorted by its format, of which
-- none is missing
pub record IsDecided
    (definitions : List Definition) (header : Header) (list : List Avp) (s : Sorted) (k : CommandKind) : Type 0 where
  pub kind : kind_read header list ≡ Some k
  pub clean : later_faults definitions header list ≡ []
  pub sorted : IsSorted (format_of k (is_event header list)) list s
  pub complete : missing (format_of k (is_event header list)) list ≡ []
