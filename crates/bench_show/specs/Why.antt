-- Why a machine moved as it did: the event, the row that took it, and what the guards said.
use Rattle.std.specs.Prelude.{ℕ, ◌+◌, ◌==◌, ◌&&◌, Bool, List, [], ◌∷◌, ◌++◌, codes, decimal, flat_map, map, min, take}
use Rattle.std.specs.Prelude.{Option, Some, None, slice_get, if◌then◌else◌}
use Rattle.std.specs.List.{enumerate_from}
use Rattle.std.specs.Option.{option_map_or}
use Rattle.bench_item.specs.declared.entry.Entry.{Entry}
use Rattle.bench_item.specs.declared.entry.Moved.{Moved}
use Rattle.bench_item.specs.declared.key.Key.{Key}
use Rattle.bench_spec.specs.Settings.{table_of}
use Rattle.bench_spec.specs.Taken.{Run}
use Rattle.step_text.specs.Lines.{behind, fact_words}
use Rattle.step_text.specs.Names.{kind_word, names_of}
use Rattle.tab_law.specs.Books.{Laws, named_answer}
use Rattle.tab_law.specs.declared.scene.Scene.{Scene}
use Rattle.tab_print.specs.Printed.{row_line, widths_of}
use Rattle.tab_step.specs.Moves.{is_kind_of, name_at, scene_of}
use Rattle.tab_step.specs.declared.machine.Event.{Event}
use Rattle.tab_step.specs.declared.machine.MachineState.{MachineState}
use Rattle.tab_text.specs.Contents.{Contents}
use Rattle.tab_text.specs.declared.row.Row.{Row}
use Rattle.bench_show.specs.History.{numbered_text}

-- `event KIND N=V ..`: the event with the facts that aren't 0
abbrev pub event_line : Laws → Event → List ℕ
event_line laws event =
    codes "event" ++ behind (kind_word (names_of laws []) event.kind ∷ fact_words 0 event.facts) ++ codes "\n"

-- ` GUARD yes` or ` GUARD no`: what a guard's law says on a scene
abbrev pub answer_words : Laws → Scene → List ℕ → List ℕ
answer_words laws scene name =
    codes " " ++ name ++ (if named_answer laws scene name then codes " yes" else codes " no")

-- `  row N: GUARD yes ..`: what each guard of a row says, `always` where it has none
abbrev pub answers_words : Laws → Scene → List (List ℕ) → List ℕ
answers_words laws scene [] = codes " always"
answers_words laws scene (name ∷ names) = flat_map (answer_words laws scene) (name ∷ names)

abbrev pub names_in : Contents → Row → List (List ℕ)
names_in table row = map (name_at table.guards) row.guards

abbrev pub answers_line : Contents → Laws → Scene → (ℕ × Row) → List ℕ
answers_line table laws scene at =
    codes "  row " ++ decimal at.0 ++ codes ":" ++ answers_words laws scene (names_in table at.1) ++ codes "\n"

-- a row that has the machine's state and the event's kind
abbrev pub is_of : Contents → Laws → MachineState → Event → Row → Bool
is_of table laws s e row = (row.state == s.state) && is_kind_of laws e.kind (name_at table.kinds row.kind)

abbrev pub told_row : Contents → Laws → MachineState → Event → (ℕ × Row) → List ℕ
told_row table laws s e at =
    if is_of table laws s e at.1 then answers_line table laws (scene_of s.regs e.facts) at else []

-- the rows up to the one that took the event, with their numbers; all where none took it
abbrev pub rows_to : Contents → Option ℕ → List (ℕ × Row)
rows_to table (Some number) = take (number + 1) (enumerate_from 0 table.rows)
rows_to table None = enumerate_from 0 table.rows

-- how many these are
abbrev pub count_to : Option ℕ → ℕ → ℕ
count_to (Some number) rows = min (number + 1) rows
count_to None rows = rows

-- what the guards of such rows say, a line each
unfoldable pub guards_text : Contents → Laws → MachineState → Event → List (ℕ × Row) → List ℕ
guards_text table laws s e rows = flat_map (told_row table laws s e) rows

-- the row that took the event, as the table is printed; nothing where none did
abbrev pub taken_row : Contents → Option ℕ → List ℕ
taken_row table None = []
taken_row table (Some number) = option_map_or (row_line table (widths_of table)) (slice_get table.rows number) []

-- all of it of a move, in the entry of that number
abbrev pub why_text : Run → Key → (ℕ × Entry) → Moved → List ℕ
why_text run key at moved =
    let table = table_of run.settings key.role in
    let laws = run.settings.node.laws in
    numbered_text run at ++ event_line laws moved.event ++ taken_row table moved.row
    ++ guards_text table laws moved.before moved.event (rows_to table moved.row)
