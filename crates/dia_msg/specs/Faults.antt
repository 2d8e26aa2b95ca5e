-- The faults of a message, in the order in which they count.
use Rattle.std.specs.Prelude.{◌≡◌, ℕ, ◌%◌, ◌/◌, Bool, true, false, not, ◌==◌, ◌&&◌, ◌||◌, nat_lt, if◌then◌else◌}
use Rattle.std.specs.Prelude.{List, [], ◌∷◌, ◌++◌, length, slice_index, drop, map, filter, Option, None, Some, is_none}
use Rattle.std.specs.List.{list_any}
use Rattle.std.specs.Option.{option_map, option_map_or}
use Rattle.dia_avp.specs.declared.avp.Avp.{Avp}
use Rattle.dia_avp.specs.Avps.{AvpsThen, IsLeftOver}
use Rattle.dia_avp.specs.Look.{is_coded, first_number}
use Rattle.dia_dict.specs.declared.definition.Definition.{Definition}
use Rattle.dia_tree.specs.declared.fault.MsgFault.{MsgFault}
use Rattle.base_codes.specs.declared.result_code.ResultCode.{ResultCode}
use Rattle.base_codes.specs.declared.result_code.ResultCode.TheVariants.{CommandUnsupported, ApplicationUnsupported}
use Rattle.base_codes.specs.declared.result_code.ResultCode.TheVariants.{UnsupportedVersion, InvalidMessageLength}
use Rattle.base_codes.specs.declared.result_code.ResultCode.TheVariants.{UnableToComply}
use Rattle.dia_tree.specs.Faults.{fault, missing_fault, has_event_type, HasMessageFaults}
use Rattle.dia_command.specs.declared.header.Flags.{Flags}
use Rattle.dia_command.specs.declared.header.Header.{Header}
use Rattle.dia_command.specs.declared.kind.CommandKind.{CommandKind}
use Rattle.dia_command.specs.declared.kind.CommandKind.TheVariants as kinds
use Rattle.dia_command.specs.declared.format.AvpFormat.{AvpFormat}
use Rattle.dia_command.specs.Header.{header_in}
use Rattle.dia_command.specs.Format.{kind_coded, application_of, format_of}
use Rattle.dia_msg.specs.Taken.{missing}

-- the fault where a test says so, and else none
abbrev pub fault_if : Bool → ResultCode → List MsgFault
fault_if true code = fault code None ∷ []
fault_if false code = []

-- whether there are fewer than 20 octets, or the length field isn't their number or isn't a multiple of 4
abbrev pub is_bad_length : List ℕ → Bool
is_bad_length octets =
    nat_lt (length octets) 20 || (not ((header_in octets).length == length octets) || not (length octets % 4 == 0))

-- the kind of the command, where it is known
abbrev pub kind_in : List ℕ → Option CommandKind
kind_in octets = kind_coded (header_in octets).command (header_in octets).flags.request

-- whether the Application-Id isn't the command's
abbrev pub is_bad_application : List ℕ → Bool
is_bad_application octets = not ((header_in octets).application == application_of (header_in octets).command)

-- the faults of the header: length, version, command, Application-Id
abbrev pub header_faults : List ℕ → List MsgFault
header_faults octets =
    fault_if (is_bad_length octets) InvalidMessageLength
    ++ (fault_if (not (slice_index octets 0 == 1)) UnsupportedVersion
    ++ (fault_if (is_none (kind_in octets)) CommandUnsupported
    ++ fault_if (is_bad_application octets) ApplicationUnsupported))

-- whether a header is that of a Credit-Control-Request
abbrev pub is_credit : Header → Bool
is_credit header = (header.command == 272) && header.flags.request

-- whether a message of a header and AVPs is an EVENT request
abbrev pub is_event : Header → List Avp → Bool
is_event header list = is_credit header && has_event_type list

-- whether the first Result-Code tells no success: it is not 2xxx (RFC 6733 section 7.1)
abbrev pub has_failed : List Avp → Bool
has_failed list = option_map_or (λ n. not (n / 1000 == 2)) (first_number 268 list) false

-- whether AVPs of a kind of command have all that are required
abbrev pub is_complete : CommandKind → List Avp → Bool
is_complete kind list = length (missing (format_of kind false) list) == 0

-- the kind as which an answer with these AVPs is read: one that has flag E, or that tells no success and lacks an AVP
-- of its command, is an ErrorAnswer (RFC 6733 sections 6.2 and 7.2)
abbrev pub answer_as : CommandKind → Bool → List Avp → CommandKind
answer_as kind error list =
    if error || (has_failed list && not (is_complete kind list)) then kinds.ErrorAnswer else kind

-- the kind as which a message is read
abbrev pub read_as : CommandKind → Flags → List Avp → CommandKind
read_as kind flags list = if flags.request then kind else answer_as kind flags.error list

-- the kind as which a message is read, where its command is known
abbrev pub kind_read : Header → List Avp → Option CommandKind
kind_read header list =
    option_map (λ kind. read_as kind header.flags list) (kind_coded header.command header.flags.request)

-- the format by which a message is read
abbrev pub format_read : Header → List Avp → List AvpFormat
format_read header list = option_map_or (λ kind. format_of kind (is_event header list)) (kind_read header list) []

-- whether a kind of command may have several services (RFC 8506 section 5.1.2)
abbrev pub has_services : CommandKind → Bool
has_services kinds.CreditControlRequest = true
has_services kinds.CreditControlAnswer = true
has_services kind = false

-- the instances of Multiple-Services-Credit-Control that are looked at: those of a request or an answer, at its top
-- level
abbrev pub instances : Header → List Avp → List Avp
instances header list =
    if option_map_or has_services (kind_read header list) false then filter (is_coded 456) list else []

-- the group of an instance: the first Rating-Group among its AVPs, or none
abbrev pub IsGroupOf : Avp → Option ℕ → Type 0
IsGroupOf a group =
    (list : List Avp) × (left : List ℕ)
    × AvpsThen a.octets list left × IsLeftOver left × (group ≡ first_number 432 list)

-- the groups of instances, in order
abbrev pub AreGroups : List Avp → List (Option ℕ) → Type 0
AreGroups [] groups = groups ≡ []
AreGroups (a ∷ list) groups =
    (group : Option ℕ) × (later : List (Option ℕ))
    × IsGroupOf a group × AreGroups list later × (groups ≡ group ∷ later)

-- whether two groups are one; no Rating-Group is a group too
abbrev pub is_same : Option ℕ → Option ℕ → Bool
is_same None None = true
is_same (Some a) (Some b) = a == b
is_same a b = false

-- whether a group stands twice
abbrev pub has_twice : List (Option ℕ) → Bool
has_twice [] = false
has_twice (group ∷ later) = list_any (is_same group) later || has_twice later

-- the fault of services: there are more than four, any at all in an EVENT request, or two of one group
abbrev pub services_faults : Bool → List (Option ℕ) → List MsgFault
services_faults event groups =
    fault_if (nat_lt (if event then 0 else 4) (length groups) || has_twice groups) UnableToComply

-- the faults of the AVPs that are missing, in the order of the format
abbrev pub missing_faults : List Definition → List AvpFormat → List Avp → List MsgFault
missing_faults definitions format list = map (λ f. missing_fault definitions f.code) (missing format list)

-- all faults of a message: of its header, of its AVPs in order of place, of those that are missing, of its services
pub record HasFaults (definitions : List Definition) (octets : List ℕ) (faults : List MsgFault) : Type 0 where
  -- the whole AVPs behind the header, and what is left: nothing, or a broken AVP
  pub avps : List Avp
  pub left : List ℕ
  pub whole : AvpsThen (drop 20 octets) avps left
  pub over : IsLeftOver left
  pub inner : List MsgFault
  pub inside : HasMessageFaults definitions (is_credit (header_in octets)) (drop 20 octets) inner
  pub groups : List (Option ℕ)
  pub grouped : AreGroups (instances (header_in octets) avps) groups
  pub all :
      faults ≡ header_faults octets
      ++ (inner
      ++ (missing_faults definitions (format_read (header_in octets) avps) avps
      ++ services_faults (is_event (header_in octets) avps) groups))
