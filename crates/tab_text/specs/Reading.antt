-- What is found of a text, and which row cells spell.
use Rattle.std.specs.Prelude.{ℕ, ◌≡◌, ◌≤◌, ◌++◌, Bool, true, false, List, [], ◌∷◌, length}
use Rattle.std.specs.Prelude.{map, Option, Some, None, Result, Ok, Err, MatchOption, MatchResult, if◌then◌else◌}
use Rattle.std.specs.List.{flat_map}
use Rattle.std.specs.Borrow.{Bor}
use Rattle.text_parts.specs.Lines.{Line, is_plain, is_skipped}
use Rattle.text_parts.specs.Words.{tokens}
use Rattle.tab_text.specs.Cells.{Cells, NamedRow, parts, row_cells, row_of}
use Rattle.tab_text.specs.Faults.{fault_at}
use Rattle.tab_text.specs.Passing.{own_fault, line_case}
use Rattle.text_parts.specs.Fronts.{values_in, IsFront}
use Rattle.tab_text.specs.declared.limits.TheConstants.{MAX_NAME, MAX_ROW_GUARDS, MAX_ROW_ACTIONS}
use Rattle.tab_text.specs.declared.fault.TextCode.{TextCode}
use Rattle.tab_text.specs.declared.fault.TextCode.TheVariants.{BadByte}
use Rattle.tab_text.specs.declared.fault.TextFault.{TextFault}
use Rattle.text_parts.specs.declared.front.Front.{Front}
use Rattle.text_parts.specs.declared.lines.TextLine.{TextLine}
use Rattle.text_parts.specs.Left.{line_of, lines_more}
use Rattle.tab_text.specs.declared.cells.RowCell.{RowCell}
use Rattle.tab_text.specs.declared.cells.RowLines.{RowLines}
use Rattle.tab_text.specs.declared.cells.RowNames.{RowNames}

-- the first line that is kept, with the lines behind it, or a byte that a text can't have before it
abbrev pub first_kept : List Line → Result (Option (Line × List Line)) TextFault
first_kept [] = Ok None
first_kept (line ∷ rest) =
    if is_plain line.octets then (if is_skipped line.octets then first_kept rest else Ok (Some (line, rest)))
    else Err (fault_at line.number BadByte)

-- the first line on which a row begins, by what a line is and what is found behind it
abbrev pub row_step : Line → List Line → Result Bool TextCode → Result (Option (Line × List Line)) TextFault
    → Result (Option (Line × List Line)) TextFault
row_step line rest (Err code) later = Err (fault_at line.number code)
row_step line rest (Ok false) later = later
row_step line rest (Ok true) later = Ok (Some (line, rest))

-- the first line on which a row begins, with the lines behind it, or a fault before it
abbrev pub first_row : Bool → List Line → Result (Option (Line × List Line)) TextFault
first_row some_row [] = Ok None
first_row some_row (line ∷ rest) = row_step line rest (line_case some_row line.octets) (first_row some_row rest)

-- an answer is the line that was found, and these lines are left now
abbrev pub IsFound :
    Result (Option (Line × List Line)) TextFault → Result (Option TextLine) TextFault → List Line → Type 0
IsFound found (Err fault) new = found ≡ Err fault
IsFound found (Ok None) new = found ≡ Ok None
IsFound found (Ok (Some line)) new = found ≡ Ok (Some (line_of line, new))

-- the words that are left of a cell, and its bytes where nothing stands between its parts
abbrev pub cell_words : RowCell → List (List ℕ)
cell_words c = tokens c.rest.now ++ flat_map tokens (parts c.span (lines_more c.behind))

abbrev pub cell_octets : RowCell → List ℕ
cell_octets c = c.rest.now ++ flat_map (λ part. part) (parts c.span (lines_more c.behind))

-- the first of some words is taken off, if there is one
abbrev pub IsNextOf : (before after : List (List ℕ)) → Option (Bor (List ℕ)) → Type 0
IsNextOf before after found = MatchOption found (before ≡ []) (λ word. before ≡ word.now ∷ after)

-- the line on which a row begins, and those that continue it
abbrev pub row_parts : RowLines → List Line
row_parts row = line_of row.line ∷ lines_more row.behind

-- parts one behind the other
abbrev pub concat : List (List ℕ) → List ℕ
concat all = flat_map (λ part. part) all

-- the cells of a row that begins on a line
abbrev pub cells_at : RowLines → Cells
cells_at row = row_cells row.columns (line_of row.line) (lines_more row.behind)

-- the bytes of a name
abbrev pub octets_in : Front ℕ MAX_NAME → List ℕ
octets_in name = values_in name

-- the names that are kept of a list
abbrev pub few_names : Front (Front ℕ MAX_NAME) MAX_ROW_ACTIONS → List (List ℕ)
few_names few = map octets_in (values_in few)

-- the front of a list of names is kept
abbrev pub IsFewOf : List (List ℕ) → Front (Front ℕ MAX_NAME) MAX_ROW_ACTIONS → Type 0
IsFewOf names few = (list : List (Front ℕ MAX_NAME)) × (names ≡ map octets_in list) × IsFront list few

-- a list was found, and its front is kept
abbrev pub IsFrontOf : Option (List (List ℕ)) → Front (Front ℕ MAX_NAME) MAX_ROW_ACTIONS → Type 0
IsFrontOf None few = ⊥
IsFrontOf (Some names) few = IsFewOf names few

-- the same, or there is none
abbrev pub IsFewIn : Option (List (List ℕ)) → Option (Front (Front ℕ MAX_NAME) MAX_ROW_ACTIONS) → Type 0
IsFewIn found few = MatchOption few (found ≡ None) (IsFrontOf found)

-- a row by its names
abbrev pub named : RowNames → NamedRow
named row = record {
  state = octets_in row.state;
  kind = octets_in row.kind;
  guards = few_names row.guards;
  actions = few_names row.actions;
  next = octets_in row.next;
}

-- a row was found, but of its guards and actions only the front is kept
pub record IsRowFront (found : NamedRow) (row : RowNames) : Type 0 where
  pub state : found.state ≡ octets_in row.state
  pub kind : found.kind ≡ octets_in row.kind
  pub guards : IsFewOf found.guards row.guards
  pub actions : IsFewOf found.actions row.actions
  pub next : found.next ≡ octets_in row.next

abbrev pub IsRowFrontOf : Option NamedRow → RowNames → Type 0
IsRowFrontOf None row = ⊥
IsRowFrontOf (Some found) row = IsRowFront found row

-- the same, or there is none
abbrev pub IsRowIn : Option NamedRow → Option RowNames → Type 0
IsRowIn found row = MatchOption row (found ≡ None) (IsRowFrontOf found)

-- cells without a fault of their own spell this row
pub record IsOwnRow (is_first : Bool) (cells : Cells) (row : RowNames) : Type 0 where
  pub sound : own_fault is_first cells ≡ None
  pub found : row_of cells ≡ Some (named row)
  pub line : row.line ≡ cells.line
  pub few_guards : length (named row).guards ≤ MAX_ROW_GUARDS
  pub few_actions : length (named row).actions ≤ MAX_ROW_ACTIONS

-- that row was read, or the first fault that the cells have by themselves was found
abbrev pub IsOwnRead : Bool → Cells → Result RowNames TextCode → Type 0
IsOwnRead is_first cells result =
    MatchResult result (IsOwnRow is_first cells) (λ code. own_fault is_first cells ≡ Some code)
