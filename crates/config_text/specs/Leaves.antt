-- Texts, numbers and addresses that stand in fields of an object. A field that is absent counts as null.
use Rattle.std.specs.Prelude.{ℕ, List, Bool, Option, Some, None, Result, Ok, is_some}
use Rattle.std.specs.Prelude.{unwrap_or, option_and_then, if◌then◌else◌}
use Rattle.std.specs.Option.{ok_or}
use Rattle.std.specs.Borrow.{Bor}
use Rattle.serde_json.specs.Data.{Data, null}
use Rattle.serde_json.specs.Find.{as_null, as_number, as_str, as_u64, get}
use Rattle.serde_json.specs.View.{view}
use Rattle.serde_json.specs.declared.value.Value.{Value}
use Rattle.config_text.specs.declared.fault.Fault.{Fault}
use Rattle.config_text.specs.declared.fault.Wanted.TheVariants as wanted
use Rattle.config_text.specs.declared.field.Field.{Field}
use Rattle.config_text.specs.declared.place.Place.{Place}
use Rattle.config_text.specs.Addresses.{address_of}
use Rattle.config_text.specs.Answers.{made}
use Rattle.config_text.specs.Faults.{fault_at}
use Rattle.config_text.specs.Fields.{name_of}
use Rattle.config_text.specs.Places.{within}

-- the value of a field; null where it is absent
abbrev pub field_of : Field → Data → Data
field_of field d = unwrap_or (get (name_of field) d) null

-- a value that is there or not
abbrev pub data_of : Option (Bor Value) → Data
data_of None = null
data_of (Some value) = view value.now

abbrev pub is_null : Data → Bool
is_null d = is_some (as_null d)

-- what a value is read as, and what is wanted there
abbrev pub text_of : Place → Data → Result (List ℕ) Fault
text_of place d = ok_or (as_str d) (fault_at place wanted.Text)

abbrev pub whole_of : Place → Data → Result ℕ Fault
whole_of place d = ok_or (option_and_then as_u64 (as_number d)) (fault_at place wanted.Whole)

-- a text in a field
unfoldable pub text_in : Place → Field → Data → Result (List ℕ) Fault
text_in place field d = text_of (within field place) (field_of field d)

-- a text in a field, or none for null
unfoldable pub text_or_none : Place → Field → Data → Result (Option (List ℕ)) Fault
text_or_none place field d =
    if is_null (field_of field d) then Ok None else made Some (text_of (within field place) (field_of field d))

-- an address in a field
unfoldable pub address_in : Place → Field → Data → Result (List ℕ) Fault
address_in place field d =
    ok_or (option_and_then address_of (as_str (field_of field d))) (fault_at (within field place) wanted.Address)

-- a whole number in a field
unfoldable pub whole_in : Place → Field → Data → Result ℕ Fault
whole_in place field d = whole_of (within field place) (field_of field d)

-- a whole number in a field, or the default for null
unfoldable pub whole_or : ℕ → Place → Field → Data → Result ℕ Fault
whole_or default place field d =
    if is_null (field_of field d) then Ok default else whole_of (within field place) (field_of field d)
