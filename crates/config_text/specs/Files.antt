-- The names of a node's files.
use Rattle.std.specs.Prelude.{ℕ, List, Option, None, Result, Ok, if◌then◌else◌}
use Rattle.serde_json.specs.Data.{Data}
use Rattle.config_text.specs.declared.fault.Fault.{Fault}
use Rattle.config_text.specs.declared.field.Field.TheVariants as fields
use Rattle.config_text.specs.declared.field.Shape.TheVariants as shapes
use Rattle.config_text.specs.declared.node.Files.{Files}
use Rattle.config_text.specs.declared.node.Tables.{Tables}
use Rattle.config_text.specs.declared.place.Place.{Place}
use Rattle.config_text.specs.Answers.{after, both, made}
use Rattle.config_text.specs.Leaves.{field_of, is_null, text_or_none}
use Rattle.config_text.specs.Objects.{object_of}
use Rattle.config_text.specs.Places.{within}

abbrev pub Name : Type 0
Name = Option (List ℕ)

abbrev pub tables_with : Name × (Name × Name) → Tables
tables_with read = record { peer = read.0; client = read.1.0; server = read.1.1 }

-- the files of an object of tables
abbrev pub names_in : Place → Data → Result Tables Fault
names_in place d =
    after (object_of place shapes.Tables d)
    (made tables_with (both (text_or_none place fields.Peer d)
    (both (text_or_none place fields.Client d) (text_or_none place fields.Server d))))

abbrev pub no_tables : Tables
no_tables = record { peer = None; client = None; server = None }

-- the files of the tables, none for null
unfoldable pub tables_of : Place → Data → Result Tables Fault
tables_of place d = if is_null (field_of fields.Tables d) then Ok no_tables
    else names_in (within fields.Tables place) (field_of fields.Tables d)

abbrev pub files_with : Tables × Name → Files
files_with read = record { tables = read.0; dictionary = read.1 }

-- the files of a node
unfoldable pub files_of : Place → Data → Result Files Fault
files_of place d = made files_with (both (tables_of place d) (text_or_none place fields.Dictionary d))
