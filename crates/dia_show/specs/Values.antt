-- What an AVP's data says, by its type (RFC 6733 sections 4.2 and 4.3.1).
use Rattle.std.specs.Prelude.{ℕ, ◌==◌, List, [], ◌∷◌, ◌++◌, length, drop, codes, decimal, Option, None}
use Rattle.std.specs.Prelude.{Some, unwrap_or, if◌then◌else◌}
use Rattle.byteorder.specs.Endian.{big_number}
use Rattle.base_codes.specs.ResultNames.{result_name}
use Rattle.dia_avp.specs.Field.{is_address}
use Rattle.std.specs.Net.Text.{ipv4_text, ipv6_text}
use Rattle.std.specs.Net.Addr.{segments_of}
use Rattle.dia_dict.specs.declared.definition.AvpKind.{AvpKind}
use Rattle.dia_dict.specs.declared.definition.AvpKind.TheVariants.{Unsigned32, Unsigned64, Enumerated, Utf8String}
use Rattle.dia_dict.specs.declared.definition.AvpKind.TheVariants.{DiameterIdentity, Address, Grouped}
use Rattle.dia_dict.specs.declared.definition.AvpKind.TheVariants.{Time, OctetString}
use Rattle.dia_dict.specs.declared.definition.Definition.{Definition}
use Rattle.dia_show.specs.Glossary.{Naming, added_name}
use Rattle.dia_show.specs.Names.{enumerated_name}
use Rattle.dia_show.specs.Dates.{time_text}
use Rattle.dia_show.specs.Parts.{quoted, octets_text}

-- a name behind one blank, nothing where there is none
abbrev pub name_behind : List ℕ → List ℕ
name_behind [] = []
name_behind (c ∷ name) = codes " " ++ c ∷ name

-- data of a size that their type doesn't have
abbrev pub ill_sized : List ℕ → List ℕ
ill_sized octets = octets_text octets ++ codes " (a size that its type does not have)"

-- the name of a number in an AVP of this code without vendor: Result-Code has those of all results
abbrev pub number_name : ℕ → ℕ → List ℕ
number_name code number = if code == 268 then result_name number else []

-- a number of 4 octets in decimal, and its name where it has one
abbrev pub named_text : (ℕ → List ℕ) → List ℕ → List ℕ
named_text name octets =
    if length octets == 4 then decimal (big_number 4 octets) ++ name_behind (name (big_number 4 octets))
    else ill_sized octets

-- an Unsigned64 in decimal
abbrev pub long_text : List ℕ → List ℕ
long_text octets = if length octets == 8 then decimal (big_number 8 octets) else ill_sized octets

-- a Time as its number, and the date and time of day
abbrev pub moment_text : List ℕ → List ℕ
moment_text octets = if length octets == 4 then time_text (big_number 4 octets) else ill_sized octets

-- the octets of an address of a family: of family 1 with dots, of family 2 by RFC 5952, of another in hexadecimal
abbrev pub family_text : ℕ → List ℕ → List ℕ
family_text family octets =
    if family == 1 then ipv4_text octets
    else if family == 2 then ipv6_text (segments_of octets)
    else codes "family " ++ decimal family ++ codes " " ++ octets_text octets

-- an Address: a family of 2 octets, and then the address
abbrev pub address_text : List ℕ → List ℕ
address_text octets = if is_address octets then family_text (big_number 2 octets) (drop 2 octets) else ill_sized octets

-- the code by which the names of an AVP's values are found: 0 where it has a vendor
abbrev pub names_code : Definition → ℕ
names_code d = if unwrap_or d.vendor 0 == 0 then d.code else 0

-- the name of a number in the AVP of a definition: a Result-Code and an Enumerated have some
abbrev pub name_of_kind : AvpKind → ℕ → ℕ → List ℕ
name_of_kind Unsigned32 code number = number_name code number
name_of_kind Enumerated code number = enumerated_name code number
name_of_kind kind code number = []

-- the name of a number in the AVP of a definition by the standards
abbrev pub standard_name : Definition → ℕ → List ℕ
standard_name d number = name_of_kind d.kind (names_code d) number

-- a name, or another one where it is empty
abbrev pub name_or : List ℕ → List ℕ → List ℕ
name_or [] other = other
name_or (c ∷ name) other = c ∷ name

-- the name of a number in the AVP of a definition: that of the standards, or else the one that was added
abbrev pub value_name : List Naming → Definition → ℕ → List ℕ
value_name namings d number = name_or (standard_name d number) (added_name namings d number)

-- data of a type, by the names of its numbers
abbrev pub typed_text : (ℕ → List ℕ) → AvpKind → List ℕ → List ℕ
typed_text name Unsigned32 octets = named_text name octets
typed_text name Unsigned64 octets = long_text octets
typed_text name Enumerated octets = named_text name octets
typed_text name Utf8String octets = quoted octets
typed_text name DiameterIdentity octets = quoted octets
typed_text name Address octets = address_text octets
typed_text name Grouped octets = octets_text octets
typed_text name Time octets = moment_text octets
typed_text name OctetString octets = octets_text octets

-- data by the definition that the AVP has, in hexadecimal where it has none
abbrev pub value_text : List Naming → Option Definition → List ℕ → List ℕ
value_text namings None octets = octets_text octets
value_text namings (Some d) octets = typed_text (value_name namings d) d.kind octets
