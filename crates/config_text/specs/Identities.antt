-- Who a node is.
use Rattle.std.specs.Prelude.{ℕ, List, Result}
use Rattle.serde_json.specs.Data.{Data}
use Rattle.config_text.specs.declared.fault.Fault.{Fault}
use Rattle.config_text.specs.declared.field.Field.TheVariants as fields
use Rattle.config_text.specs.declared.place.Place.{Place}
use Rattle.dia_write.specs.declared.answer.Identity.{Identity}
use Rattle.config_text.specs.Answers.{both, made}
use Rattle.config_text.specs.Leaves.{address_in, text_in}

abbrev pub identity_with : List ℕ × (List ℕ × List ℕ) → Identity
identity_with read = record { host = read.0; realm = read.1.0; address = read.1.1 }

-- who a node is: its host, realm and address
unfoldable pub identity_of : Place → Data → Result Identity Fault
identity_of place d =
    made identity_with (both (text_in place fields.Host d)
    (both (text_in place fields.Realm d) (address_in place fields.Address d)))
