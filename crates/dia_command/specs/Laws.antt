-- What holds of every command.
use Rattle.std.specs.Prelude.{◌≡◌, ◌<◌, ℕ, Bool, true, false, List, [], ◌∷◌, get_or, map, None, All}
use Rattle.std.specs.List.{flat_map}
use Rattle.dia_avp.specs.declared.avp.Avp.{Avp}
use Rattle.dia_dict.specs.declared.definition.Definition.{Definition}
use Rattle.dia_dict.specs.Dictionary.{definition_of}
use Rattle.dia_tree.specs.Kind.{is_grouped}
use Rattle.dia_tree.specs.Canonical.{canonical}
use Rattle.dia_command.specs.declared.format.AvpFormat.{AvpFormat}
use Rattle.dia_command.specs.Field.{Field, Groups, avps_by, IsFieldOf}
use Rattle.dia_command.specs.declared.command.Command.{Command}
use Rattle.dia_command.specs.Command.{kind_of, header_of, fields, rest_of}

-- kind, header, fields and rest fix a command
abbrev pub SameCommand : Type 0
SameCommand = (a b : Command) → kind_of a ≡ kind_of b
    → header_of a ≡ header_of b → fields a ≡ fields b → rest_of a ≡ rest_of b → a ≡ b

-- an AVP as it was read: of this code, without vendor, its data octets
pub record IsRead (code : ℕ) (a : Avp) : Type 0 where
  pub code_is : a.code ≡ code
  pub no_vendor : a.vendor ≡ None
  pub octets_are : (i : ℕ) → get_or a.octets i 0 < 256

-- whether a field is of groups
abbrev pub has_groups : Field → Bool
has_groups (Groups values) = true
has_groups field = false

-- a field read from AVPs of a code, which the dictionary takes for groups where the field is of groups
pub record IsReadOf (definitions : List Definition) (code : ℕ) (field : Field) (list : List Avp) : Type 0 where
  pub value : IsFieldOf definitions field list
  pub each : All (IsRead code) list
  pub kind : is_grouped (definition_of definitions code None) ≡ has_groups field

-- fields read from AVPs, each by its place in a format
abbrev pub AreReadOf : List Definition → List AvpFormat → List Field → List (List Avp) → Type 0
AreReadOf definitions (f ∷ format) (field ∷ fields) (list ∷ lists) =
    IsReadOf definitions f.code field list × AreReadOf definitions format fields lists
AreReadOf definitions [] [] [] = Unit {0}
AreReadOf definitions format fields lists = ⊥

-- the AVPs of fields that were read are the AVPs that they were read from, in their canonical encoding
abbrev pub WrittenAgain : Type 0
WrittenAgain =
    (definitions : List Definition) (format : List AvpFormat) (fields : List Field) (lists : List (List Avp))
    → AreReadOf definitions format fields lists
    → avps_by format fields ≡ map (canonical definitions 4) (flat_map (λ list. list) lists)
