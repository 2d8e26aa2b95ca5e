-- Lists of a CONFIG: all parts, or the first fault of one.
use Rattle.std.specs.Prelude.{ℕ, ◌+◌, List, [], ◌∷◌, ◌++◌, Option, Some, None, Result, Ok, Err, if◌then◌else◌}
use Rattle.serde_json.specs.Data.{Data, Items, no_items, item}
use Rattle.serde_json.specs.Find.{as_array}
use Rattle.config_text.specs.declared.fault.Fault.{Fault}
use Rattle.config_text.specs.declared.fault.Wanted.TheVariants as wanted
use Rattle.config_text.specs.declared.field.Field.{Field}
use Rattle.config_text.specs.declared.place.Place.{Place}
use Rattle.config_text.specs.Faults.{fault_at}
use Rattle.config_text.specs.Leaves.{field_of, is_null}
use Rattle.config_text.specs.Places.{within}

-- a part and those behind it, or the first fault
abbrev pub first_and : {T : Type 0} → Result T Fault → Result (List T) Fault → Result (List T) Fault
first_and (Err f) parts = Err f
first_and (Ok x) (Err f) = Err f
first_and (Ok x) (Ok xs) = Ok (x ∷ xs)

-- the parts of items, the first of which stands at this index
abbrev pub parts_from : {T : Type 0} → (ℕ → Data → Result T Fault) → ℕ → Items → Result (List T) Fault
parts_from read index no_items = Ok []
parts_from read index (item d ds) = first_and (read index d) (parts_from read (index + 1) ds)

-- parts behind others
abbrev pub behind : {T : Type 0} → List T → Result (List T) Fault → Result (List T) Fault
behind xs (Err f) = Err f
behind xs (Ok ys) = Ok (xs ++ ys)

abbrev pub fault_in : {T : Type 0} → Result T Fault → Option Fault
fault_in (Err f) = Some f
fault_in (Ok x) = None

abbrev pub list_with : {T : Type 0} → (ℕ → Data → Result T Fault) → Place → Option Items → Result (List T) Fault
list_with read place None = Err (fault_at place wanted.List)
list_with read place (Some ds) = parts_from read 0 ds

-- the parts of a list; parts are read by the place of their list and their index
unfoldable pub list_of : {T : Type 0} → (Place → ℕ → Data → Result T Fault) → Place → Data → Result (List T) Fault
list_of read place d = list_with (read place) place (as_array d)

-- the parts of a list in a field
unfoldable pub list_in : {T : Type 0} → (Place → ℕ → Data → Result T Fault)
    → Place → Field → Data → Result (List T) Fault
list_in read place field d = list_of read (within field place) (field_of field d)

-- the same, and none for null
unfoldable pub list_or_none : {T : Type 0}
    → (Place → ℕ → Data → Result T Fault) → Place → Field → Data → Result (List T) Fault
list_or_none read place field d =
    if is_null (field_of field d) then Ok [] else list_of read (within field place) (field_of field d)
