-- What is told of a text that gives no nodes.
use Rattle.std.specs.Prelude.{ℕ, ◌||◌, List, [], ◌∷◌, ◌++◌, Option, Some, None, codes, decimal}
use Rattle.std.specs.Prelude.{map, nat_lt, if◌then◌else◌}
use Rattle.config_text.specs.declared.fault.ConfigError.{ConfigError}
use Rattle.config_text.specs.declared.fault.ConfigError.TheVariants as errors
use Rattle.config_text.specs.declared.fault.Wanted.{Wanted}
use Rattle.config_text.specs.declared.fault.Wanted.TheVariants.{Text, Whole, Address, List as ListWanted, Object}
use Rattle.config_text.specs.declared.fault.Wanted.TheVariants.{Desk, Known, Once}
use Rattle.config_text.specs.declared.field.Field.{Field}
use Rattle.config_text.specs.declared.field.Shape.{Shape}
use Rattle.config_text.specs.declared.place.Place.{Place}
use Rattle.config_text.specs.Fields.{fields_of, name_of}

-- `[1]`
unfoldable pub index_text : Option ℕ → List ℕ
index_text None = []
index_text (Some index) = codes "[" ++ decimal index ++ codes "]"

-- `.peers`
unfoldable pub field_text : Option Field → List ℕ
field_text None = []
field_text (Some field) = codes "." ++ name_of field

-- what is behind `nodes`: `[0].peers[1].host`
unfoldable pub inside_text : Place → List ℕ
inside_text place =
    index_text place.node ++ field_text place.field
    ++ index_text place.item ++ field_text place.inner ++ index_text place.line

abbrev pub place_with : Place → Option ℕ → Option Field → List ℕ
place_with place (Some node) field = codes "nodes" ++ inside_text place
place_with place None (Some field) = name_of field
place_with place None None = codes "CONFIG"

-- a place: `nodes[0].peers[1].host`, and `CONFIG` for the whole
unfoldable pub place_text : Place → List ℕ
place_text place = place_with place place.node place.field

-- a character of a name: a question mark stands for what is not printable ASCII
abbrev pub shown : ℕ → ℕ
shown c = if nat_lt c 32 || nat_lt 126 c then 63 else c

unfoldable pub written : List ℕ → List ℕ
written name = map shown name

-- names, each behind a comma
abbrev pub others_text : List Field → List ℕ
others_text [] = []
others_text (field ∷ fields) = codes ", " ++ name_of field ++ others_text fields

abbrev pub names_text : List Field → List ℕ
names_text [] = []
names_text (field ∷ fields) = name_of field ++ others_text fields

-- the fields that an object may have
unfoldable pub fields_text : Shape → List ℕ
fields_text shape = names_text (fields_of shape)

unfoldable pub one_of_text : Shape → List ℕ
one_of_text shape = codes ", one of " ++ fields_text shape ++ codes " is wanted"

-- a name that no field has, and those that the fields have
unfoldable pub unknown_text : Shape → List ℕ → List ℕ
unknown_text shape name = codes "unknown field " ++ written name ++ one_of_text shape

-- a name that stands twice in one object
unfoldable pub twice_text : List ℕ → List ℕ
twice_text name = codes "field " ++ written name ++ codes " stands twice in one object"

-- what is wanted
unfoldable pub wanted_text : Wanted → List ℕ
wanted_text Text = codes "a text is wanted"
wanted_text Whole = codes "a whole number of at most 18446744073709551615 is wanted"
wanted_text Address = codes "an IPv4 address is wanted, as 192.0.2.1"
wanted_text ListWanted = codes "a list is wanted"
wanted_text Object = codes "an object is wanted"
wanted_text Desk = codes "a list of lines is wanted, or an object with lines"
wanted_text (Known shape name) = unknown_text shape name
wanted_text (Once name) = twice_text name

unfoldable pub not_json_text : ℕ → ℕ → List ℕ
not_json_text line column = codes "line " ++ decimal line ++ codes " column " ++ decimal column ++ codes ": not JSON\n"

-- the line that tells of an error
unfoldable pub error_text : ConfigError → List ℕ
error_text errors.NoMemory = codes "no memory\n"
error_text (errors.NotJson line column) = not_json_text line column
error_text (errors.Fault fault) = place_text fault.place ++ codes ": " ++ wanted_text fault.wanted ++ codes "\n"
