-- The faults of a text's lines, and the first of them.
use Rattle.std.specs.Prelude.{ℕ, ◌==◌, ◌++◌, ◌&&◌, ◌||◌, not, map, nat_lt, nat_le, Bool, true, false}
use Rattle.std.specs.Prelude.{List, [], ◌∷◌, length, Option, Some, None, is_none, if◌then◌else◌}
use Rattle.std.specs.List.{filter_map, flat_map}
use Rattle.text_parts.specs.Lines.{Line, lines, kept, is_plain, is_skipped, is_more, is_row_line, more_lines}
use Rattle.text_parts.specs.Words.{tokens}
use Rattle.tab_text.specs.Cells.{Cells, NamedRow, is_header, columns_of, row_cells, groups, row_of}
use Rattle.tab_text.specs.declared.header.Columns.{Columns}
use Rattle.tab_text.specs.Rows.{Names, filled, names_of}
use Rattle.tab_text.specs.declared.limits.TheConstants.{MAX_TEXT, MAX_ROWS, MAX_STATES, MAX_KINDS, MAX_GUARDS}
use Rattle.tab_text.specs.declared.limits.TheConstants.{MAX_ACTIONS, MAX_ROW_GUARDS, MAX_ROW_ACTIONS}
use Rattle.tab_text.specs.declared.fault.TextCode.{TextCode}
use Rattle.tab_text.specs.declared.fault.TextCode.TheVariants.{NoHeader, BadByte, NoRowToContinue, EmptyCell, BadName}
use Rattle.tab_text.specs.declared.fault.TextCode.TheVariants.{TooManyRows, TooManyNames, TooManyInRow, TooLong}
use Rattle.tab_text.specs.declared.fault.TextFault.{TextFault}

-- a fault of a line
abbrev pub fault_at : ℕ → TextCode → TextFault
fault_at line code = record { line = line; code = code }

abbrev pub is_empty : {A : Type 0} → List A → Bool
is_empty [] = true
is_empty (x ∷ xs) = false

-- a row lacks its event, its action or its next state, or the first row its state: a cell is there where it has a word
abbrev pub lacks_cell : Bool → Cells → Bool
lacks_cell is_first cells =
    is_empty (tokens cells.event) || is_empty (tokens cells.action) || is_empty cells.next
    || (is_first && is_empty cells.state)

-- a row has over 4 guards or over 8 actions
abbrev pub has_many : Option NamedRow → Bool
has_many None = false
has_many (Some row) = nat_lt MAX_ROW_GUARDS (length row.guards) || nat_lt MAX_ROW_ACTIONS (length row.actions)

-- names within the limits of a table
unfoldable pub has_room : Names → Bool
has_room names =
    nat_le (length names.states) MAX_STATES && nat_le (length names.kinds) MAX_KINDS
    && nat_le (length names.guards) MAX_GUARDS
    && nat_le (length names.actions) MAX_ACTIONS

-- the codes whose tests hold, in this order
abbrev pub codes_of : List (Bool × TextCode) → List TextCode
codes_of [] = []
codes_of (test ∷ tests) = if test.0 then test.1 ∷ codes_of tests else codes_of tests

-- what can be wrong with a row, behind the rows before it
unfoldable pub row_tests : List Cells → Cells → List (Bool × TextCode)
row_tests before cells =
    (lacks_cell (length before == 0) cells, EmptyCell)
    ∷ (is_none (row_of cells), BadName)
    ∷ (has_many (row_of cells), TooManyInRow)
    ∷ (nat_le MAX_ROWS (length before), TooManyRows)
    ∷ (not (has_room (names_of (filled [] (filter_map row_of (before ++ cells ∷ []))))), TooManyNames)
    ∷ []

-- what can be wrong with a line behind the rows that begin before it: it continues a row, or begins one with the lines
-- that continue it
unfoldable pub body_tests : List Cells → Columns → Line → List Line → List (Bool × TextCode)
body_tests rows columns line more =
    if is_more line.octets then (is_empty rows, NoRowToContinue) ∷ [] else row_tests rows (row_cells columns line more)

-- what can be wrong with a line that is kept, between those that are kept: the first is the header
unfoldable pub kept_tests : List Line → Line → List Line → List (Bool × TextCode)
kept_tests [] line behind = (not (is_header line.octets), NoHeader) ∷ []
kept_tests (header ∷ body) line behind =
    (not (is_row_line line.octets), BadByte)
    ∷ body_tests (groups (columns_of header.octets) body) (columns_of header.octets) line (more_lines behind)

-- what can be wrong with a line of a text, between the lines before it and those behind
unfoldable pub line_tests : List Line → Line → List Line → List (Bool × TextCode)
line_tests before line behind =
    (not (is_plain line.octets), BadByte)
    ∷ (if is_skipped line.octets then [] else kept_tests (kept before) line (kept behind))

-- a line of a text, the lines before it and those behind
pub record Place : Type 0 where
  pub before : List Line
  pub line : Line
  pub behind : List Line

-- each line, behind these lines and those between
abbrev pub places : List Line → List Line → List Place
places before [] = []
places before (line ∷ rest) = record { before = before; line = line; behind = rest } ∷ places (before ++ line ∷ []) rest

-- the faults of a line, in the order of their tests
abbrev pub faults_at : Place → List TextFault
faults_at place = map (fault_at place.line.number) (codes_of (line_tests place.before place.line place.behind))

-- the faults of a text's kept lines as a whole: they lack a header, or rows
abbrev pub end_faults : List Line → List TextFault
end_faults [] = fault_at 0 NoHeader ∷ []
end_faults (header ∷ body) =
    if is_empty (groups (columns_of header.octets) body) then fault_at header.number EmptyCell ∷ [] else []

-- all faults of a text: its length, then those of its lines by line, then those of the whole
unfoldable pub faults : List ℕ → List TextFault
faults text =
    map (fault_at 0) (codes_of ((nat_lt MAX_TEXT (length text), TooLong) ∷ []))
    ++ flat_map faults_at (places [] (lines text))
    ++ end_faults (kept (lines text))

abbrev pub first_of : List TextFault → Option TextFault
first_of [] = None
first_of (fault ∷ faults) = Some fault

-- the first fault of a text
unfoldable pub first_fault : List ℕ → Option TextFault
first_fault text = first_of (faults text)
