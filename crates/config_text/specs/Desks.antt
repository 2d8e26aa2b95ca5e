-- The desks of a node.
use Rattle.std.specs.Prelude.{ℕ, List, Result, Err, is_some, if◌then◌else◌}
use Rattle.serde_json.specs.Data.{Data}
use Rattle.serde_json.specs.Find.{as_array, as_object}
use Rattle.config_text.specs.declared.fault.Fault.{Fault}
use Rattle.config_text.specs.declared.fault.Wanted.TheVariants as wanted
use Rattle.config_text.specs.declared.field.Field.TheVariants as fields
use Rattle.config_text.specs.declared.field.Shape.TheVariants as shapes
use Rattle.config_text.specs.declared.node.DeskConfig.{DeskConfig}
use Rattle.config_text.specs.declared.node.TheConstants.{DEFAULT_REPEAT}
use Rattle.config_text.specs.declared.place.Place.{Place}
use Rattle.config_text.specs.Answers.{after, both, made}
use Rattle.config_text.specs.Faults.{fault_at}
use Rattle.config_text.specs.Leaves.{text_of, whole_or}
use Rattle.config_text.specs.Objects.{object_of}
use Rattle.config_text.specs.Parts.{list_in, list_of}
use Rattle.config_text.specs.Places.{item_at, line_at}

-- a line of a desk
abbrev pub line_of : Place → ℕ → Data → Result (List ℕ) Fault
line_of list index d = text_of (line_at index list) d

abbrev pub told_once : List (List ℕ) → DeskConfig
told_once lines = record { lines = lines; repeat = DEFAULT_REPEAT }

-- the lines of a list, told once
abbrev pub lines_in : Place → Data → Result DeskConfig Fault
lines_in place d = made told_once (list_of line_of place d)

abbrev pub desk_with : List (List ℕ) × ℕ → DeskConfig
desk_with read = record { lines = read.0; repeat = read.1 }

-- the lines of an object, and how often they are told
abbrev pub repeated_in : Place → Data → Result DeskConfig Fault
repeated_in place d =
    after (object_of place shapes.Desk d)
    (made desk_with (both (list_in line_of place fields.Lines d) (whole_or DEFAULT_REPEAT place fields.Repeat d)))

-- a desk: a list of lines, or an object that has them
abbrev pub desk_at : Place → Data → Result DeskConfig Fault
desk_at place d =
    if is_some (as_array d) then lines_in place d
    else if is_some (as_object d) then repeated_in place d else Err (fault_at place wanted.Desk)

abbrev pub desk_of : Place → ℕ → Data → Result DeskConfig Fault
desk_of list index d = desk_at (item_at index list) d
