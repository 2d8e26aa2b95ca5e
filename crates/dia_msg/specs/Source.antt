-- The AVPs of a message as the values of its command's fields are made of them.
use Rattle.std.specs.Prelude.{◌≡◌, ◌<◌, ◌^◌, ℕ, Bool, true, false, List, [], length, map, get_or, All, None, Some}
use Rattle.std.specs.Prelude.{is_some}
use Rattle.std.specs.Option.{option_map}
use Rattle.std.specs.Str.{is_utf8}
use Rattle.dia_avp.specs.declared.avp.Avp.{Avp}
use Rattle.dia_avp.specs.Encoding.{length_of}
use Rattle.dia_dict.specs.declared.definition.AvpKind.TheVariants.{Utf8String}
use Rattle.dia_dict.specs.declared.definition.Definition.{Definition}
use Rattle.dia_dict.specs.Dictionary.{known, definition_of}
use Rattle.dia_tree.specs.Faults.{least_of, IsGood}
use Rattle.dia_tree.specs.Canonical.{canonical}
use Rattle.dia_command.specs.declared.command.Command.{Command}
use Rattle.dia_command.specs.declared.header.Header.{Header}
use Rattle.dia_command.specs.declared.kind.CommandKind.{CommandKind}
use Rattle.dia_command.specs.Command.{kind_of, header_of, rest_of, fields}
use Rattle.dia_command.specs.declared.format.AvpFormat.{AvpFormat}
use Rattle.dia_command.specs.Field.{type_in}
use Rattle.dia_msg.specs.declared.sorting.Sorted.{Sorted}
use Rattle.dia_msg.specs.Taken.{taken, missing, groups, untaken}
use Rattle.dia_msg.specs.Reading.{AreFields}
use Rattle.dia_msg.specs.Sorting.{IsSorted}

-- the entry at a place of a format, and the AVPs that it takes
abbrev pub entry_at : List AvpFormat → ℕ → AvpFormat
entry_at formats place = get_or formats place (record { code = 0; required = false; several = false })

abbrev pub takes : List AvpFormat → List Avp → ℕ → List Avp
takes formats list place = taken (entry_at formats place) list

-- the AVPs are sorted by the format, none is missing, and none has a fault
pub record IsReady (added : List Definition) (formats : List AvpFormat) (list : List Avp) (s : Sorted) : Type 0 where
  pub event : Bool
  pub sorted : IsSorted formats list s
  pub complete : missing formats list ≡ []
  pub good : All (IsGood (known added) event 4) list
  pub short : All (λ a. length_of a < 2 ^ 24) list

-- at a place is an entry of one AVP that must be there, of one that may be, of any number
abbrev pub IsOne : List AvpFormat → ℕ → Type 0
IsOne formats place =
    (place < length formats) × ((entry_at formats place).required ≡ true)
    × ((entry_at formats place).several ≡ false)

abbrev pub IsPerhaps : List AvpFormat → ℕ → Type 0
IsPerhaps formats place = (place < length formats) × ((entry_at formats place).several ≡ false)

abbrev pub IsSeveral : List AvpFormat → ℕ → Type 0
IsSeveral formats place = (place < length formats) × ((entry_at formats place).several ≡ true)

-- AVPs of a code are numbers of 4 octets, or text
abbrev pub AreNumbers : List Definition → ℕ → Type 0
AreNumbers added code = least_of (definition_of (known added) code None) ≡ 4

abbrev pub AreTexts : List Definition → ℕ → Type 0
AreTexts added code = option_map (λ d. d.kind) (definition_of (known added) code None) ≡ Some Utf8String

-- an AVP of a code has data of its type
pub record IsSound (added : List Definition) (code : ℕ) (a : Avp) : Type 0 where
  pub number : AreNumbers added code → length a.octets ≡ 4
  pub text : AreTexts added code → is_utf8 a.octets ≡ true
  pub request_type : code ≡ 416 → is_some (type_in a.octets) ≡ true

-- a command of a kind and a header that is made of the AVPs
pub record IsBuilt
    (added : List Definition) (formats : List AvpFormat) (list : List Avp) (kind : CommandKind) (header : Header)
    (c : Command) : Type 0 where
  pub kind_is : kind_of c ≡ kind
  pub header_is : header_of c ≡ header
  pub fields_are : AreFields (known added) (fields c) (groups formats list)
  pub rest_is : rest_of c ≡ map (canonical (known added) 4) (untaken formats list)
