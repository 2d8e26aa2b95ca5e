-- The types of AVP data (RFC 6733 sections 4.2 and 4.3.1): their sizes, faults and values.
use Rattle.std.specs.Prelude.{◌≡◌, ◌≤◌, ℕ, Bool, ◌==◌, nat_lt, if◌then◌else◌, List, length, Option}
use Rattle.std.specs.Prelude.{None, Some, option_map}
use Rattle.std.specs.List.{list_all}
use Rattle.std.specs.Str.{is_utf8}
use Rattle.dia_avp.specs.Field.{IsUnsigned32, IsUnsigned64, IsAddress, is_address}
use Rattle.dia_avp.specs.declared.avp.Avp.{Avp}
use Rattle.dia_avp.specs.Avps.{Avps}
use Rattle.dia_avp.specs.Reading.{avps_in}
use Rattle.dia_avp.specs.Group.{parts_fault}
use Rattle.dia_avp.specs.declared.fault.FieldFault.{FieldFault}
use Rattle.dia_avp.specs.declared.fault.FieldFault.TheVariants as field_faults
use Rattle.dia_dict.specs.declared.definition.AvpKind.{AvpKind}
use Rattle.dia_dict.specs.declared.definition.AvpKind.TheVariants.{Unsigned32, Unsigned64, Enumerated, Utf8String}
use Rattle.dia_dict.specs.declared.definition.AvpKind.TheVariants.{DiameterIdentity, Address, Grouped}
use Rattle.dia_dict.specs.declared.definition.AvpKind.TheVariants.{Time, OctetString}
use Rattle.dia_dict.specs.declared.fault.DictFault.{DictFault}
use Rattle.dia_dict.specs.declared.fault.DictFault.TheVariants.{BadValue, BadLength}
use Rattle.dia_dict.specs.declared.field.Field.{Field}
use Rattle.dia_dict.specs.declared.field.Field.TheVariants as fields

-- the size of data of a type where it is fixed, else 0
abbrev pub least_size : AvpKind → ℕ
least_size Unsigned32 = 4
least_size Unsigned64 = 8
least_size Enumerated = 4
least_size Utf8String = 0
least_size DiameterIdentity = 0
least_size Address = 0
least_size Grouped = 0
least_size Time = 4
least_size OctetString = 0

-- what is wrong with data, as the dictionary says it
abbrev pub fault_of_field : FieldFault → DictFault
fault_of_field field_faults.BadValue = BadValue
fault_of_field field_faults.BadLength = BadLength

-- what is wrong with data of a type of fixed size (RFC 6733 section 4.2)
abbrev pub size_fault : ℕ → List ℕ → Option DictFault
size_fault size octets = if length octets == size then None else Some BadLength

-- whether all octets are ASCII
abbrev pub is_ascii : List ℕ → Bool
is_ascii octets = list_all (λ o. nat_lt o 128) octets

-- what is wrong with data of a type (RFC 6733 sections 4.2 to 4.4); of a group one level is looked at
abbrev pub data_fault : AvpKind → List ℕ → Option DictFault
data_fault Unsigned32 octets = size_fault 4 octets
data_fault Unsigned64 octets = size_fault 8 octets
data_fault Enumerated octets = size_fault 4 octets
data_fault Utf8String octets = if is_utf8 octets then None else Some BadValue
data_fault DiameterIdentity octets = if is_ascii octets then None else Some BadValue
data_fault Address octets = if is_address octets then None else Some BadLength
data_fault Grouped octets = option_map fault_of_field (parts_fault (avps_in octets))
data_fault Time octets = size_fault 4 octets
data_fault OctetString octets = None

-- the value of data by its type; no other form of value is one
abbrev pub IsValueOf : AvpKind → List ℕ → Field → Type 0
IsValueOf Unsigned32 octets (fields.Number n) = IsUnsigned32 octets n
IsValueOf Unsigned64 octets (fields.Number64 n) = IsUnsigned64 octets n
IsValueOf Enumerated octets (fields.Number n) = IsUnsigned32 octets n
IsValueOf Utf8String octets (fields.Text t) = t.now ≡ octets
IsValueOf DiameterIdentity octets (fields.Identity name) = name.now ≡ octets
IsValueOf Address octets (fields.Address a) = IsAddress octets a
IsValueOf Grouped octets (fields.Group g) =
    (g.octets.now ≡ octets) × (list : List Avp) × (length list ≤ 128) × Avps octets list
IsValueOf Time octets (fields.Number n) = IsUnsigned32 octets n
IsValueOf OctetString octets (fields.Octets o) = o.now ≡ octets
IsValueOf kind octets field = ⊥
