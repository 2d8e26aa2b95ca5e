-- what one pass over a text finds first, from the lines that are kept before and the lines behind; the definition of a
-- text's faults is in Faults, and the two are shown to be one
use Rattle.std.specs.Prelude.{ℕ, ◌==◌, ◌++◌, not, nat_le, Bool, true, false, List, [], ◌∷◌, length}
use Rattle.std.specs.Prelude.{Option, Some, None, option_map, is_none, Result, Ok, Err, MatchResult, ◌≡◌, if◌then◌else◌}
use Rattle.std.specs.Option.{option_or}
use Rattle.std.specs.List.{filter_map}
use Rattle.text_parts.specs.Lines.{Line, kept, is_plain, is_skipped, is_more, is_row_line, more_lines}
use Rattle.tab_text.specs.Cells.{Cells, is_header, columns_of, row_cells, row_of}
use Rattle.tab_text.specs.Rows.{filled, names_of}
use Rattle.tab_text.specs.Faults.{fault_at, is_empty, lacks_cell, has_many, has_room}
use Rattle.tab_text.specs.declared.limits.TheConstants.{MAX_ROWS}
use Rattle.tab_text.specs.declared.fault.TextCode.{TextCode}
use Rattle.tab_text.specs.declared.fault.TextCode.TheVariants.{NoHeader, BadByte, NoRowToContinue, EmptyCell}
use Rattle.tab_text.specs.declared.fault.TextCode.TheVariants.{BadName, TooManyRows, TooManyNames, TooManyInRow}
use Rattle.tab_text.specs.declared.fault.TextFault.{TextFault}

-- the first code whose test holds
abbrev pub first_code : List (Bool × TextCode) → Option TextCode
first_code [] = None
first_code (test ∷ tests) = if test.0 then Some test.1 else first_code tests

-- the first fault that a row has by itself
unfoldable pub own_fault : Bool → Cells → Option TextCode
own_fault is_first cells = first_code (
    (lacks_cell is_first cells, EmptyCell)
    ∷ (is_none (row_of cells), BadName)
    ∷ (has_many (row_of cells), TooManyInRow)
    ∷ []
    )

-- the first limit of a table that a row passes behind the rows before it
unfoldable pub room_fault : List Cells → Cells → Option TextCode
room_fault before cells = first_code (
    (nat_le MAX_ROWS (length before), TooManyRows)
    ∷ (not (has_room (names_of (filled [] (filter_map row_of (before ++ cells ∷ []))))), TooManyNames)
    ∷ []
    )

-- the first fault of a row behind the rows before it
abbrev pub row_fault : List Cells → Cells → Option TextCode
row_fault before cells = option_or (own_fault (length before == 0) cells) (room_fault before cells)

-- what a line behind the header is, where a row begins before it or none does: a row begins on it, or it is passed over
abbrev pub line_case : Bool → List ℕ → Result Bool TextCode
line_case some_row octets =
    if not (is_plain octets) then Err BadByte
    else if is_skipped octets then Ok false
    else if not (is_row_line octets) then Err BadByte
    else if is_more octets then (if some_row then Ok false else Err NoRowToContinue)
    else Ok true

-- that is what was found of a line
abbrev pub IsCase : Result Bool TextCode → Result Bool TextCode → Type 0
IsCase case result = MatchResult result (λ begins. case ≡ Ok begins) (λ code. case ≡ Err code)

-- the fault of a text whose lines have none: it lacks rows
abbrev pub end_fault : Line → List Cells → Option TextFault
end_fault header rows = if is_empty rows then Some (record { line = header.number; code = EmptyCell }) else None

-- the first fault from a line on, by what the line is, and by the first fault behind it where it is passed over or
-- begins a row
abbrev pub fault_step :
    List Cells → Cells → Result Bool TextCode → Option TextFault → Option TextFault → Option TextFault
fault_step rows cells (Err code) passed begun = Some (fault_at cells.line code)
fault_step rows cells (Ok false) passed begun = passed
fault_step rows cells (Ok true) passed begun = option_or (option_map (fault_at cells.line) (row_fault rows cells)) begun

-- the first fault of lines behind a header and these rows
abbrev pub fault_behind : Line → List Cells → List Line → Option TextFault
fault_behind header rows [] = end_fault header rows
fault_behind header rows (line ∷ rest) =
    fault_step rows (row_cells (columns_of header.octets) line (more_lines (kept rest)))
    (line_case (not (is_empty rows)) line.octets)
    (fault_behind header rows rest)
    (fault_behind header (rows ++ row_cells (columns_of header.octets) line (more_lines (kept rest)) ∷ []) rest)

-- the first fault of lines before which there is no header
abbrev pub head_fault : List Line → Option TextFault
head_fault [] = Some (fault_at 0 NoHeader)
head_fault (line ∷ rest) =
    if not (is_plain line.octets) then Some (fault_at line.number BadByte)
    else if is_skipped line.octets then head_fault rest
    else if is_header line.octets then fault_behind line [] rest
    else Some (fault_at line.number NoHeader)
