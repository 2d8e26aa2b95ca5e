-- Where a reader of a text stands, and what taking off a row answers.
use Rattle.std.specs.Prelude.{ℕ, ◌≡◌, ◌==◌, true, ◌<◌, ◌≤◌, List, [], ◌∷◌, ◌++◌, length}
use Rattle.std.specs.Prelude.{All, Option, Some, None, Result, Ok, Err, MatchResult, if◌then◌else◌}
use Rattle.text_parts.specs.Lines.{Line, lines, kept}
use Rattle.tab_text.specs.Names.{is_name}
use Rattle.tab_text.specs.Cells.{Cells, NamedRow, columns_of, groups, row_of}
use Rattle.tab_text.specs.Rows.{spelled, names_of, IsWellNamed}
use Rattle.tab_text.specs.Faults.{fault_at, first_fault, has_room}
use Rattle.tab_text.specs.Passing.{own_fault, row_fault, fault_behind}
use Rattle.tab_text.specs.Reading.{octets_in, named}
use Rattle.text_parts.specs.Left.{lines_left}
use Rattle.tab_text.specs.declared.limits.TheConstants.{MAX_ROWS, MAX_ROW_GUARDS, MAX_ROW_ACTIONS}
use Rattle.tab_text.specs.declared.fault.TextCode.{TextCode}
use Rattle.tab_text.specs.declared.fault.TextCode.TheVariants.{TooManyNames}
use Rattle.tab_text.specs.declared.fault.TextFault.{TextFault}
use Rattle.tab_text.specs.declared.fault.ParseError.{ParseError}
use Rattle.tab_text.specs.declared.fault.ParseError.TheVariants.{NoMemory, Fault}
use Rattle.tab_text.specs.declared.reader.Reader.{Reader}
use Rattle.tab_text.specs.declared.cells.RowNames.{RowNames}

-- the state of the last of rows, behind a row with this state
abbrev pub last_state : List ℕ → List NamedRow → List ℕ
last_state before [] = before
last_state before (row ∷ rows) = last_state row.state rows

-- a reader has taken off the header and these rows
pub record IsAt (header : Line) (rows : List Cells) (reader : Reader) : Type 0 where
  pub line : reader.header ≡ header.number
  pub columns : reader.columns ≡ columns_of header.octets
  pub count : reader.count ≡ length rows
  pub state : octets_in reader.state ≡ last_state [] (spelled rows)
  pub named : 0 < length rows → is_name (octets_in reader.state) ≡ true

-- a reader stands behind the header of a text
pub record IsOpened (text : List ℕ) (header : Line) (reader : Reader) : Type 0 where
  pub at : IsAt header [] reader
  pub kept : kept (lines text) ≡ header ∷ kept (lines_left reader.lines)
  pub fault : first_fault text ≡ fault_behind header [] (lines_left reader.lines)

-- it was opened, or the text's first fault was found
abbrev pub IsOpening : List ℕ → Result Reader TextFault → Type 0
IsOpening text result =
    MatchResult result (λ reader. (header : Line) × IsOpened text header reader)
    (λ fault. first_fault text ≡ Some fault)

-- a row was read behind others, its state as it is written
pub record IsRead (rows : List Cells) (cells : Cells) (row : RowNames) : Type 0 where
  pub found : row_of cells ≡ Some (named row)
  pub number : row.line ≡ cells.line
  pub room : length rows < MAX_ROWS
  pub few_guards : length (named row).guards ≤ MAX_ROW_GUARDS
  pub few_actions : length (named row).actions ≤ MAX_ROW_ACTIONS
  pub sound : own_fault (length rows == 0) cells ≡ None
  -- whether there is room for its names is left open
  pub fault : row_fault rows cells ≡ (if has_room (names_of (spelled (rows ++ cells ∷ []))) then None
      else Some TooManyNames)

-- that row, or the first fault of the cells behind others
abbrev pub IsRowRead : List Cells → Cells → Result RowNames TextCode → Type 0
IsRowRead rows cells result = MatchResult result (IsRead rows cells) (λ code. row_fault rows cells ≡ Some code)

-- a reader took off a row
pub record TakesCells
    (header : Line) (rows : List Cells) (cells : Cells) (row : RowNames) (reader : Reader) : Type 0 where
  pub at : IsAt header (rows ++ cells ∷ []) reader
  pub rows_are : spelled (rows ++ cells ∷ []) ≡ spelled rows ++ named row ∷ []
  pub well : IsWellNamed (named row)
  pub number : row.line ≡ cells.line
  pub room : length rows < MAX_ROWS
  pub few_guards : length (named row).guards ≤ MAX_ROW_GUARDS
  pub few_actions : length (named row).actions ≤ MAX_ROW_ACTIONS
  pub fault : row_fault rows cells ≡ (if has_room (names_of (spelled (rows ++ cells ∷ []))) then None
      else Some TooManyNames)

-- that row, or the first fault of the cells behind others
abbrev pub IsRowTaken : Line → List Cells → Cells → Reader → Result RowNames TextCode → Type 0
IsRowTaken header rows cells reader result =
    MatchResult result (λ row. TakesCells header rows cells row reader) (λ code. row_fault rows cells ≡ Some code)

-- a reader took off the next row, which has these cells
pub record TakesRow
    (header : Line) (rows : List Cells) (left : List Line) (row : RowNames) (cells : Cells) (reader : Reader)
    : Type 0 where
  pub taken : TakesCells header rows cells row reader
  pub groups : groups (columns_of header.octets) (kept left)
      ≡ cells ∷ groups (columns_of header.octets) (kept (lines_left reader.lines))
  pub shorter : length (lines_left reader.lines) < length left
  pub fault : fault_behind header rows left
      ≡ (if has_room (names_of (spelled (rows ++ cells ∷ []))) then fault_behind header (rows ++ cells ∷ [])
      (lines_left reader.lines) else Some (fault_at row.line TooManyNames))

-- no row is left, and no fault
pub record HasEnded (header : Line) (rows : List Cells) (left : List Line) : Type 0 where
  pub groups : groups (columns_of header.octets) (kept left) ≡ []
  pub fault : fault_behind header rows left ≡ None
  pub some_row : 0 < length rows

-- what taking off the next row answers, where these lines were left
abbrev pub IsNextRow : Line → List Cells → List Line → Result (Option RowNames) TextFault → Reader → Type 0
IsNextRow header rows left (Err fault) reader = fault_behind header rows left ≡ Some fault
IsNextRow header rows left (Ok None) reader = HasEnded header rows left
IsNextRow header rows left (Ok (Some row)) reader = (cells : Cells) × TakesRow header rows left row cells reader

-- rows within the limits of a table
pub record IsShort (rows : List NamedRow) : Type 0 where
  pub some_row : 0 < length rows
  pub few_rows : length rows ≤ MAX_ROWS
  pub few_guards : All (λ row. length row.guards ≤ MAX_ROW_GUARDS) rows
  pub few_actions : All (λ row. length row.actions ≤ MAX_ROW_ACTIONS) rows
  pub well_named : All IsWellNamed rows

-- a text is refused for its first fault, and for want of memory only where it has none
abbrev pub IsRefusal : Option TextFault → ParseError → Type 0
IsRefusal (Some fault) error = error ≡ Fault fault
IsRefusal None error = error ≡ NoMemory
