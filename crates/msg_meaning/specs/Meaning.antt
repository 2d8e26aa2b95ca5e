-- What a message means, as a function of its octets: `dia_msg.specs.Reading` has the same as a relation.
use Rattle.std.specs.Prelude.{ℕ, List, [], ◌∷◌, map, slice_get, Option, None, Some, Result, Ok, Err, unwrap_or}
use Rattle.std.specs.Option.{option_and_then}
use Rattle.base_codes.specs.declared.result_code.ResultCode.TheVariants.{UnableToComply}
use Rattle.dia_avp.specs.declared.avp.Avp.{Avp}
use Rattle.dia_avp.specs.Reading.{avps_in}
use Rattle.dia_avp.specs.Look.{number_in}
use Rattle.dia_dict.specs.declared.definition.Definition.{Definition}
use Rattle.dia_dict.specs.Dictionary.{known}
use Rattle.dia_tree.specs.Canonical.{canonical}
use Rattle.dia_tree.specs.Faults.{fault}
use Rattle.dia_tree.specs.declared.fault.MsgFault.{MsgFault}
use Rattle.dia_command.specs.declared.command.Command.{Command}
use Rattle.dia_command.specs.declared.header.Header.{Header}
use Rattle.dia_command.specs.declared.kind.CommandKind.{CommandKind}
use Rattle.dia_command.specs.declared.kind.CommandKind.TheVariants as kinds
use Rattle.dia_command.specs.declared.typed.TypedAvp.{TypedAvp}
use Rattle.dia_command.specs.declared.value.RequestType.TheVariants.{Initial}
use Rattle.dia_command.specs.declared.value.RequestedAction.TheVariants.{DirectDebiting}
use Rattle.dia_command.specs.Field.{Field, Octets, Numbers, Types, Actions, Groups, type_in, action_in}
use Rattle.dia_command.specs.Forms.{Form, OfOctets, OfNumbers, OfTypes, OfActions, OfGroups, forms, command_of}
use Rattle.dia_command.specs.Header.{header_in}
use Rattle.dia_msg.specs.Faults.{kind_read, format_read}
use Rattle.dia_msg.specs.Taken.{groups, untaken}
use Rattle.dia_msg.specs.Walk.{whole_avps, faults}

-- the value of an AVP with its flags M and P, where this is the value of its data
abbrev pub typed_by : {T : Type 0} → (List ℕ → T) → Avp → TypedAvp T
typed_by value a = record { mandatory = a.mandatory; protected = a.protected; value = value a.octets }

-- the AVPs of a group, each in its canonical encoding
abbrev pub group_in : List Definition → List ℕ → List Avp
group_in definitions octets = map (canonical definitions 3) (avps_in octets).0

-- the field whose values are those of these AVPs;
-- data of another size or number are no value, and never stand where a message has no fault
abbrev pub field_of : List Definition → Form → List Avp → Field
field_of definitions OfOctets list = Octets (map (typed_by (λ octets. octets)) list)
field_of definitions OfNumbers list = Numbers (map (typed_by (λ octets. unwrap_or (number_in 4 octets) 0)) list)
field_of definitions OfTypes list = Types (map (typed_by (λ octets. unwrap_or (type_in octets) Initial)) list)
field_of definitions OfActions list =
    Actions (map (typed_by (λ octets. unwrap_or (action_in octets) DirectDebiting)) list)
field_of definitions OfGroups list = Groups (map (typed_by (group_in definitions)) list)

-- the fields of AVPs, each of those that its entry of the format takes
abbrev pub fields_of : List Definition → List Form → List (List Avp) → List Field
fields_of definitions (form ∷ forms) (list ∷ lists) = field_of definitions form list ∷ fields_of definitions forms lists
fields_of definitions forms lists = []

-- the command of these AVPs as this kind, by a format:
-- its fields of the AVPs that the format takes, its rest of the others, each in its canonical encoding
abbrev pub command_by : List Definition → Header → List Avp → CommandKind → Option Command
command_by definitions header list kind =
    command_of kind header (fields_of definitions (forms kind) (groups (format_read header list) list))
    (map (canonical definitions 4) (untaken (format_read header list) list))

-- the command of octets without a fault
abbrev pub command_in : List Definition → List ℕ → Option Command
command_in definitions octets =
    option_and_then (command_by definitions (header_in octets) (whole_avps octets))
    (kind_read (header_in octets) (whole_avps octets))

-- the first fault, and else the command; there is always one of them
abbrev pub answer_by : Option MsgFault → Option Command → Result Command MsgFault
answer_by (Some f) command = Err f
answer_by None (Some command) = Ok command
answer_by None None = Err (fault UnableToComply None)

-- what the octets of a message mean: their first fault where they have one, and else the command;
-- `added` is what the dictionary has beside the AVPs of the two standards
unfoldable pub meaning : List Definition → List ℕ → Result Command MsgFault
meaning added octets = answer_by (slice_get (faults (known added) octets) 0) (command_in (known added) octets)
