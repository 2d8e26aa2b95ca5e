-- Whether a value is an object that has no field but those of its kind.
use Rattle.std.specs.Prelude.{ℕ, List, Option, Some, None, Result, Ok, Err, ⊤, take, if◌then◌else◌}
use Rattle.serde_json.specs.Data.{Data, Members, no_members, member}
use Rattle.serde_json.specs.Find.{as_object}
use Rattle.config_text.specs.declared.fault.Fault.{Fault}
use Rattle.config_text.specs.declared.fault.Wanted.TheVariants.{Known, Object}
use Rattle.config_text.specs.declared.field.Shape.{Shape}
use Rattle.config_text.specs.declared.object.TheConstants.{MAX_NAME}
use Rattle.config_text.specs.declared.place.Place.{Place}
use Rattle.config_text.specs.Faults.{fault_at}
use Rattle.config_text.specs.Fields.{is_known}

-- the name of the first member that is no field of such an object
abbrev pub first_unknown : Shape → Members → Option (List ℕ)
first_unknown shape no_members = None
first_unknown shape (member name d ms) = if is_known shape name then first_unknown shape ms else Some name

abbrev pub unless_unknown : Place → Shape → Option (List ℕ) → Result ⊤ Fault
unless_unknown place shape None = Ok tt
unless_unknown place shape (Some name) = Err (fault_at place (Known shape (take MAX_NAME name)))

abbrev pub unless_no_object : Place → Shape → Option Members → Result ⊤ Fault
unless_no_object place shape None = Err (fault_at place Object)
unless_no_object place shape (Some ms) = unless_unknown place shape (first_unknown shape ms)

-- an object that has no field but those of its kind, or what is wrong
unfoldable pub object_of : Place → Shape → Data → Result ⊤ Fault
object_of place shape d = unless_no_object place shape (as_object d)
