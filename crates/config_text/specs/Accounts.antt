-- The accounts of a node.
use Rattle.std.specs.Prelude.{ℕ, Result}
use Rattle.serde_json.specs.Data.{Data}
use Rattle.config_text.specs.declared.fault.Fault.{Fault}
use Rattle.config_text.specs.declared.field.Field.TheVariants as fields
use Rattle.config_text.specs.declared.field.Shape.TheVariants as shapes
use Rattle.config_text.specs.declared.place.Place.{Place}
use Rattle.bench_open.specs.declared.account.Account.{Account}
use Rattle.config_text.specs.Answers.{after, both, made}
use Rattle.config_text.specs.Leaves.{whole_in}
use Rattle.config_text.specs.Objects.{object_of}
use Rattle.config_text.specs.Places.{item_at}

abbrev pub account_with : ℕ × ℕ → Account
account_with read = record { id = read.0; given = read.1 }

-- an account: its number, and the units that it is given
abbrev pub account_at : Place → Data → Result Account Fault
account_at place d =
    after (object_of place shapes.Account d)
    (made account_with (both (whole_in place fields.Id d) (whole_in place fields.Given d)))

abbrev pub account_of : Place → ℕ → Data → Result Account Fault
account_of list index d = account_at (item_at index list) d
