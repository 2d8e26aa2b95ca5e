-- A dictionary is the list of the definitions that were added to those which every dictionary has, in order of adding.
use Rattle.std.specs.Prelude.{◌≡◌, ℕ, Bool, false, ◌==◌, ◌&&◌, ◌||◌, nat_le, if◌then◌else◌, List, [], ◌∷◌, ◌++◌, length}
use Rattle.std.specs.Prelude.{find, All, Option, None, Some, is_some, unwrap_or}
use Rattle.std.specs.Str.{bytes_eq}
use Rattle.base_list.specs.declared.error.AddFault.{AddFault}
use Rattle.base_list.specs.declared.error.AddFault.TheVariants.{Taken, Full}
use Rattle.dia_avp.specs.declared.avp.Avp.{Avp}
use Rattle.dia_dict.specs.declared.definition.AvpKind.{AvpKind}
use Rattle.dia_dict.specs.declared.definition.Definition.{Definition}
use Rattle.dia_dict.specs.declared.fault.DictFault.{DictFault}
use Rattle.dia_dict.specs.declared.fault.DictFault.TheVariants.{Unknown, UnknownMandatory}
use Rattle.dia_dict.specs.declared.field.Field.{Field}
use Rattle.dia_dict.specs.Base.{base}
use Rattle.dia_dict.specs.Kind.{data_fault, IsValueOf}

-- all definitions: those that every dictionary has, then those that were added
abbrev pub known : List Definition → List Definition
known added = base ++ added

-- whether two vendors are the same: 0 counts as none
abbrev pub same_vendor : Option ℕ → Option ℕ → Bool
same_vendor a b = unwrap_or a 0 == unwrap_or b 0

-- whether a definition is that of an AVP Code and a vendor
abbrev pub is_of : ℕ → Option ℕ → Definition → Bool
is_of code vendor d = (code == d.code) && same_vendor vendor d.vendor

-- the first definition of an AVP Code and a vendor
abbrev pub definition_of : List Definition → ℕ → Option ℕ → Option Definition
definition_of definitions code vendor = find (is_of code vendor) definitions

-- whether a definition has this name
abbrev pub is_named : List ℕ → Definition → Bool
is_named name d = bytes_eq d.name name

-- the first definition of a name
abbrev pub definition_named : List Definition → List ℕ → Option Definition
definition_named definitions name = find (is_named name) definitions

-- whether a code and vendor, or a name, has a definition
abbrev pub is_taken : List Definition → ℕ → Option ℕ → List ℕ → Bool
is_taken definitions code vendor name =
    is_some (definition_of definitions code vendor) || is_some (definition_named definitions name)

-- whether a definition is that of another's code and vendor, or has its name
abbrev pub clashes : Definition → Definition → Bool
clashes d other = is_of other.code other.vendor d || is_named other.name d

-- no code and vendor, and no name, has two definitions
abbrev pub NoneTwice : List Definition → Type 0
NoneTwice [] = Unit {0}
NoneTwice (d ∷ later) = All (λ other. clashes d other ≡ false) later × NoneTwice later

-- a definition as it is added
abbrev pub defined : ℕ → Option ℕ → List ℕ → AvpKind → Definition
defined code vendor name kind = record { code = code; vendor = vendor; name = name; kind = kind }

-- why a definition may not be added, memory aside:
-- its code and vendor, or its name, has one, or else there are 256 already
abbrev pub refusal : List Definition → ℕ → Option ℕ → List ℕ → Option AddFault
refusal definitions code vendor name =
    if is_taken definitions code vendor name then Some Taken
    else if nat_le 256 (length definitions) then Some Full else None

-- what is wrong with an AVP by the definition that it has
abbrev pub fault_by : Option Definition → Avp → Option DictFault
fault_by None a = Some (if a.mandatory then UnknownMandatory else Unknown)
fault_by (Some d) a = data_fault d.kind a.octets

-- what is wrong with an AVP by the dictionary
abbrev pub fault_of : List Definition → Avp → Option DictFault
fault_of definitions a = fault_by (definition_of definitions a.code a.vendor) a

-- the value of data by the definition that the AVP has
abbrev pub IsValueBy : Option Definition → List ℕ → Field → Type 0
IsValueBy None octets field = ⊥
IsValueBy (Some d) octets field = IsValueOf d.kind octets field

-- the value of an AVP's data by the dictionary
abbrev pub IsValue : List Definition → Avp → Field → Type 0
IsValue definitions a field = IsValueBy (definition_of definitions a.code a.vendor) a.octets field
