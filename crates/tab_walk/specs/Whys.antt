-- What a step changed, and why rows didn't take its event.
use Rattle.std.specs.Prelude.{ℕ, ◌==◌, ◌&&◌, Bool, List, [], ◌++◌, Option, Some, None, take, codes, decimal}
use Rattle.std.specs.Prelude.{option_and_then, slice_index, if◌then◌else◌}
use Rattle.std.specs.List.{enumerate_from, filter_map, flat_map, range_with_len, slice_get}
use Rattle.std.specs.Option.{option_map, option_map_or}
use Rattle.base_list.specs.Named.{entry_of}
use Rattle.base_list.specs.declared.named.Named.{Named}
use Rattle.law_text.specs.Unmet.{first_unmet, unmet_text}
use Rattle.tab_law.specs.Books.{Laws}
use Rattle.tab_law.specs.declared.law.Test.{Test}
use Rattle.tab_law.specs.declared.limits.TheConstants.{PLACES}
use Rattle.tab_law.specs.declared.scene.Scene.{Scene}
use Rattle.tab_text.specs.Contents.{Contents}
use Rattle.tab_text.specs.declared.row.Row.{Row}
use Rattle.tab_step.specs.Moves.{is_kind_of, name_at, scene_of}
use Rattle.tab_step.specs.declared.machine.Event.{Event}
use Rattle.tab_step.specs.declared.machine.MachineState.{MachineState}

-- `  r3 0 -> 60`, where a register changed
abbrev pub change_line : (old new : List ℕ) → ℕ → List ℕ
change_line old new place =
    if slice_index old place == slice_index new place then [] else
    codes "  r" ++ decimal place ++ codes " " ++ decimal (slice_index old place) ++ codes " -> "
    ++ decimal (slice_index new place)
    ++ codes "\n"

-- each register that changed, of the first so many, on a line of its own
unfoldable pub changes_below : (old new : List ℕ) → ℕ → List ℕ
changes_below old new count = flat_map (change_line old new) (range_with_len 0 count)

-- each register that changed
abbrev pub changes_text : (old new : List ℕ) → List ℕ
changes_text old new = changes_below old new PLACES

-- a guard that says no: its name, with the first test of its law that isn't met
abbrev pub no_of : Scene → Named (List Test) → Option (List ℕ × Test)
no_of scene entry = option_map (λ test. (entry.name, test)) (first_unmet scene entry.value)

-- the same of the guard of a name
abbrev pub no_named : Laws → Scene → List ℕ → Option (List ℕ × Test)
no_named laws scene name = option_and_then (no_of scene) (entry_of name laws.guards)

-- the first guard of a row that says no
abbrev pub first_no : Contents → Laws → Scene → Row → Option (List ℕ × Test)
first_no table laws scene row =
    slice_get (filter_map (λ guard. no_named laws scene (name_at table.guards guard)) row.guards) 0

-- `  row 2: not success: fact 12 is 4012, wanted f12 in 2001, 2002`
abbrev pub no_line : Scene → ℕ → (List ℕ × Test) → List ℕ
no_line scene number refusal =
    codes "  row " ++ decimal number ++ codes ": not " ++ refusal.0 ++ codes ": " ++ unmet_text scene refusal.1
    ++ codes "\n"

-- a row has the machine's state and the event's kind
abbrev pub is_of : Contents → Laws → MachineState → Event → Row → Bool
is_of table laws s e row = (row.state == s.state) && is_kind_of laws e.kind (name_at table.kinds row.kind)

-- why such a row didn't take the event: its first guard that says no
abbrev pub row_why : Contents → Laws → MachineState → Event → (ℕ × Row) → List ℕ
row_why table laws s e numbered =
    if is_of table laws s e numbered.1 then option_map_or (no_line (scene_of s.regs e.facts) numbered.0)
    (first_no table laws (scene_of s.regs e.facts) numbered.1)
    [] else []

-- the rows before the one that took the event, with their numbers; all where none took it
abbrev pub rows_before : Contents → Option ℕ → List (ℕ × Row)
rows_before table (Some number) = take number (enumerate_from 0 table.rows)
rows_before table None = enumerate_from 0 table.rows

-- why they didn't take it, a line each
abbrev pub rows_why : Contents → Laws → MachineState → Event → Option ℕ → List ℕ
rows_why table laws s e taken = flat_map (row_why table laws s e) (rows_before table taken)
