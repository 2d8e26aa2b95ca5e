-- The image of a table: its instructions, its entries, and what they mean.
use Rattle.std.specs.Prelude.{◌≡◌, ℕ, zero, suc, ◌+◌, ◌*◌, ◌<◌, ◌==◌, ◌++◌, ◌∷◌, []}
use Rattle.std.specs.Prelude.{Bool, List, Option, Some, None, length, map, filter}
use Rattle.std.specs.List.{slice_get, range_with_len, enumerate_from}
use Rattle.std.specs.Str.{bytes_eq}
use Rattle.tab_text.specs.Contents.{Contents}
use Rattle.tab_text.specs.declared.row.Row.{Row}
use Rattle.tab_step.specs.Moves.{name_at, pick}
use Rattle.tab_asm.specs.Formats.{format_2, Instruction, BeginRow, TestGuard, RunAction, GoTo, NoRow, code_of}
use Rattle.tab_asm.specs.Images.{Image}
use Rattle.tab_asm.specs.Paths.{Outcome, Taken, Unlisted, Reaches}

-- the number of the entry of a state and a kind: state by state, in each kind by kind
abbrev pub entry_number : Contents → ℕ → ℕ → ℕ
entry_number table state kind = state * length table.kinds + kind

-- a row is one of an entry
abbrev pub is_in : Contents → ℕ → Row → Bool
is_in table entry row = entry_number table row.state row.kind == entry

-- the rows of an entry in text order, with their numbers
abbrev pub rows_in : Contents → ℕ → List (ℕ × Row)
rows_in table entry = filter (λ numbered. is_in table entry numbered.1) (enumerate_from 0 table.rows)

-- how many octets the instructions of a row take
abbrev pub row_size : Row → ℕ
row_size row = 5 + 6 * length row.guards + 2 * length row.actions

-- the instructions of a row: where a guard says no it goes on at that offset
abbrev pub row_instructions : ℕ → ℕ × Row → List Instruction
row_instructions otherwise numbered =
    BeginRow numbered.0
    ∷ (map (λ guard. TestGuard guard otherwise) numbered.1.guards
    ++ (map RunAction numbered.1.actions ++ GoTo numbered.1.next ∷ []))

-- the instructions of rows, the first of which begin at that offset: where a guard says no it goes on behind its row
abbrev pub rows_instructions : ℕ → List (ℕ × Row) → List Instruction
rows_instructions offset [] = []
rows_instructions offset (numbered ∷ rows) =
    row_instructions (offset + row_size numbered.1) numbered ++ rows_instructions (offset + row_size numbered.1) rows

-- the instructions of an entry: those of its rows, and the end without a row; an entry without rows has none
abbrev pub entry_instructions : ℕ → List (ℕ × Row) → List Instruction
entry_instructions offset [] = []
entry_instructions offset (numbered ∷ rows) = rows_instructions offset (numbered ∷ rows) ++ NoRow ∷ []

-- the code of the first entries
unfoldable pub code_to : Contents → ℕ → List ℕ
code_to table zero = []
code_to table (suc entry) =
    code_to table entry ++ code_of format_2 (entry_instructions (length (code_to table entry)) (rows_in table entry))

-- where the code of rows begins: nowhere where there is none
abbrev pub offset_of : ℕ → List (ℕ × Row) → Option ℕ
offset_of offset [] = None
offset_of offset (numbered ∷ rows) = Some offset

-- where the code of an entry begins
abbrev pub entry_offset : Contents → ℕ → Option ℕ
entry_offset table entry = offset_of (length (code_to table entry)) (rows_in table entry)

-- how many entries a table has
abbrev pub entry_count : Contents → ℕ
entry_count table = length table.states * length table.kinds

-- the image of a table
abbrev pub image_of : Contents → Image
image_of table = record {
  rows = length table.rows;
  entries = map (entry_offset table) (range_with_len 0 (entry_count table));
  code = code_to table (entry_count table);
  states = table.states;
  kinds = table.kinds;
  guards = table.guards;
  actions = table.actions;
}

-- how an event ends whose row is this one
abbrev pub outcome_of : Option (ℕ × Row) → Outcome
outcome_of None = Unlisted
outcome_of (Some numbered) = Taken numbered.0 numbered.1.actions numbered.1.next

-- in each state, at each kind of events and whatever the guards answer, an image leads to the first row of the table
-- that matches
abbrev pub Means : Image → Contents → Type 0
Means image table =
    (state kind : ℕ) (answers : List ℕ → Bool) → state < length table.states → kind < length table.kinds →
    (entry : Option ℕ) → slice_get image.entries (entry_number table state kind) ≡ Some entry →
    Reaches format_2 image.code (λ guard. answers (name_at image.guards guard)) entry
    (outcome_of (pick table state (bytes_eq (name_at table.kinds kind)) answers))
