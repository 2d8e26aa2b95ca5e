-- Where a value stands: the whole, and from a place to one inside it.
use Rattle.std.specs.Prelude.{ℕ, Some, None, is_some, if◌then◌else◌}
use Rattle.config_text.specs.declared.field.Field.{Field}
use Rattle.config_text.specs.declared.place.Place.{Place}

abbrev pub whole : Place
whole = record { node = None; field = None; item = None; inner = None; line = None }

abbrev pub node_at : ℕ → Place
node_at index = record whole { node = Some index }

abbrev pub item_at : ℕ → Place → Place
item_at index place = record place { item = Some index }

abbrev pub line_at : ℕ → Place → Place
line_at index place = record place { line = Some index }

-- a field of the object at a place: of a node or the whole, and else of what stands in a field of a node
unfoldable pub within : Field → Place → Place
within field place =
    if is_some place.field then record place { inner = Some field } else record place { field = Some field }
