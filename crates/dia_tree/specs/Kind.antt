-- Which AVPs are groups (RFC 6733 section 4.4).
use Rattle.std.specs.Prelude.{Bool, true, false, Option}
use Rattle.std.specs.Option.{option_map_or}
use Rattle.dia_dict.specs.declared.definition.AvpKind.{AvpKind}
use Rattle.dia_dict.specs.declared.definition.AvpKind.TheVariants.{Unsigned32, Unsigned64, Enumerated, Utf8String}
use Rattle.dia_dict.specs.declared.definition.AvpKind.TheVariants.{DiameterIdentity, Address, Grouped, Time}
use Rattle.dia_dict.specs.declared.definition.AvpKind.TheVariants.{OctetString}
use Rattle.dia_dict.specs.declared.definition.Definition.{Definition}

-- whether a type is that of groups
abbrev pub is_group : AvpKind → Bool
is_group Grouped = true
is_group Unsigned32 = false
is_group Unsigned64 = false
is_group Enumerated = false
is_group Utf8String = false
is_group DiameterIdentity = false
is_group Address = false
is_group Time = false
is_group OctetString = false

-- whether an AVP is a group by the definition that it has
abbrev pub is_grouped : Option Definition → Bool
is_grouped definition = option_map_or (λ d. is_group d.kind) definition false
