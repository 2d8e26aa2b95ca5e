-- The fields of a command as they are handed to the writing code: values that lie in the command.
use Rattle.std.specs.Prelude.{ℕ, Bool, List, map, None}
use Rattle.dia_avp.specs.declared.avp.Avp.{Avp}
use Rattle.dia_command.specs.declared.format.AvpFormat.{AvpFormat}
use Rattle.dia_write.specs.declared.values.Values.{Values}
use Rattle.dia_write.specs.declared.values.Values.TheVariants as values
use Rattle.dia_command.specs.Field.{Field, Octets, Numbers, Types, Actions, Groups, avps_coded, avps_by}

-- the field that the values are
abbrev pub field_of : Values → Field
field_of (values.Octets list) = Octets list.now
field_of (values.Texts list) = Octets list.now
field_of (values.Numbers list) = Numbers list.now
field_of (values.Types list) = Types list.now
field_of (values.Actions list) = Actions list.now
field_of (values.Groups list) = Groups list.now

-- the AVPs of values under a code, and of values by a format
abbrev pub value_avps : ℕ → Values → List Avp
value_avps code list = avps_coded code (field_of list)

abbrev pub values_avps : List AvpFormat → List Values → List Avp
values_avps format list = avps_by format (map field_of list)

-- the AVP without vendor of a code and flags that has this data
abbrev pub avp_with : ℕ → Bool → Bool → List ℕ → Avp
avp_with code mandatory protected octets =
    record { code = code; vendor = None; mandatory = mandatory; protected = protected; octets = octets }
