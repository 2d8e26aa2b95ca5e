-- What stands at one place of a command's format: the values of the AVPs of one code, none or more, in order.
use Rattle.std.specs.Prelude.{◌≡◌, ℕ, List, [], ◌∷◌, ◌++◌, map, Option, None, Some}
use Rattle.std.specs.Option.{option_map, option_and_then}
use Rattle.byteorder.specs.Endian.{big_bytes}
use Rattle.dia_avp.specs.declared.avp.Avp.{Avp}
use Rattle.dia_avp.specs.Encoding.{encoding}
use Rattle.dia_avp.specs.Look.{number_in}
use Rattle.dia_dict.specs.declared.definition.Definition.{Definition}
use Rattle.dia_tree.specs.Canonical.{AreCanonical}
use Rattle.dia_command.specs.declared.typed.TypedAvp.{TypedAvp}
use Rattle.dia_command.specs.declared.value.RequestType.{RequestType}
use Rattle.dia_command.specs.declared.value.RequestedAction.{RequestedAction}
use Rattle.dia_command.specs.declared.format.AvpFormat.{AvpFormat}
use Rattle.dia_command.specs.Value.{type_number, type_coded, action_number, action_coded}

-- octets (text too), numbers of 4 octets, CC-Request-Types, Requested-Actions, groups
pub data Field : Type 0 where
  Octets : List (TypedAvp (List ℕ)) → Field
  Numbers : List (TypedAvp ℕ) → Field
  Types : List (TypedAvp RequestType) → Field
  Actions : List (TypedAvp RequestedAction) → Field
  Groups : List (TypedAvp (List Avp)) → Field

-- a value as an AVP without vendor, whose data are these octets
abbrev pub avp_of : {T : Type 0} → (T → List ℕ) → ℕ → TypedAvp T → Avp
avp_of data_of code field = record {
  code = code;
  vendor = None;
  mandatory = field.mandatory;
  protected = field.protected;
  octets = data_of field.value;
}

-- the AVPs of a field: octets as they are, numbers in 4 octets in network byte order,
-- groups as the encoding of their AVPs
abbrev pub avps_coded : ℕ → Field → List Avp
avps_coded code (Octets values) = map (avp_of (λ octets. octets) code) values
avps_coded code (Numbers values) = map (avp_of (big_bytes 4) code) values
avps_coded code (Types values) = map (avp_of (λ t. big_bytes 4 (type_number t)) code) values
avps_coded code (Actions values) = map (avp_of (λ a. big_bytes 4 (action_number a)) code) values
avps_coded code (Groups values) = map (avp_of encoding code) values

-- the AVPs of fields, each under the code of its place in the format
abbrev pub avps_by : List AvpFormat → List Field → List Avp
avps_by (f ∷ format) (field ∷ fields) = avps_coded f.code field ++ avps_by format fields
avps_by format fields = []

-- what an AVP's data is as a CC-Request-Type, a Requested-Action
abbrev pub type_in : List ℕ → Option RequestType
type_in octets = option_and_then type_coded (number_in 4 octets)

abbrev pub action_in : List ℕ → Option RequestedAction
action_in octets = option_map action_coded (number_in 4 octets)

-- the value that data are: octets as they are, a number, a CC-Request-Type, a Requested-Action, AVPs in their canonical
-- encoding
abbrev pub IsOctets : List ℕ → List ℕ → Type 0
IsOctets octets value = value ≡ octets

abbrev pub IsNumber : List ℕ → ℕ → Type 0
IsNumber octets value = number_in 4 octets ≡ Some value

abbrev pub IsType : List ℕ → RequestType → Type 0
IsType octets value = type_in octets ≡ Some value

abbrev pub IsAction : List ℕ → RequestedAction → Type 0
IsAction octets value = action_in octets ≡ Some value

abbrev pub IsGroup : List Definition → List ℕ → List Avp → Type 0
IsGroup definitions octets list = AreCanonical definitions 3 octets list

-- a typed value is that of an AVP, with its flags M and P; `Is` says which value the AVP's data are
pub record IsTypedOf {T : Type 0} (Is : List ℕ → T → Type 0) (v : TypedAvp T) (a : Avp) : Type 0 where
  pub mandatory : v.mandatory ≡ a.mandatory
  pub protected : v.protected ≡ a.protected
  pub value : Is a.octets v.value

-- typed values are those of AVPs, one of each, in order
abbrev pub AreTypedOf : {T : Type 0} → (Is : List ℕ → T → Type 0) → List (TypedAvp T) → List Avp → Type 0
AreTypedOf Is [] [] = Unit {0}
AreTypedOf Is (v ∷ values) (a ∷ list) = IsTypedOf Is v a × AreTypedOf Is values list
AreTypedOf Is values list = ⊥

-- the field's values are those of these AVPs
abbrev pub IsFieldOf : List Definition → Field → List Avp → Type 0
IsFieldOf definitions (Octets values) list = AreTypedOf IsOctets values list
IsFieldOf definitions (Numbers values) list = AreTypedOf IsNumber values list
IsFieldOf definitions (Types values) list = AreTypedOf IsType values list
IsFieldOf definitions (Actions values) list = AreTypedOf IsAction values list
IsFieldOf definitions (Groups values) list = AreTypedOf (IsGroup definitions) values list
