-- The printed text of a table.
use Rattle.std.specs.Prelude.{ℕ, ◌+◌, ◌-◌, List, ◌++◌, length, map, max, fold, replicate, codes}
use Rattle.std.specs.List.{flat_map}
use Rattle.tab_text.specs.Contents.{Contents}
use Rattle.tab_text.specs.declared.row.Row.{Row}
use Rattle.tab_print.specs.Cells.{heading, cell_text}
use Rattle.tab_print.specs.declared.column.Column.{Column}
use Rattle.tab_print.specs.declared.column.Column.TheVariants.{State, Event, Action, Next}
use Rattle.tab_print.specs.declared.printing.Widths.{Widths}

-- a text and two blanks
abbrev pub room : List ℕ → ℕ
room text = length text + 2

-- a column is two blanks wider than its longest cell or its heading
unfoldable pub width : Contents → Column → ℕ
width table column = fold max (room (heading column)) (map (λ row. room (cell_text table column row)) table.rows)

-- the widths of the columns but the last
abbrev pub widths_of : Contents → Widths
widths_of table = record { state = width table State; event = width table Event; action = width table Action }

-- a text with blanks behind it up to a width
abbrev pub padded : ℕ → List ℕ → List ℕ
padded wide text = text ++ replicate (wide - length text) 32

-- the header begins at byte 2, and no blank is at its end
unfoldable pub header_line : Widths → List ℕ
header_line widths =
    codes "  " ++ padded widths.state (heading State) ++ padded widths.event (heading Event)
    ++ padded widths.action (heading Action)
    ++ codes "Next\n"

-- a row's line likewise, all its cells filled
unfoldable pub row_line : Contents → Widths → Row → List ℕ
row_line table widths row =
    codes "  " ++ padded widths.state (cell_text table State row) ++ padded widths.event (cell_text table Event row)
    ++ padded widths.action (cell_text table Action row)
    ++ cell_text table Next row
    ++ codes "\n"

-- the text of a table: the header and a line for each row
unfoldable pub printed : Contents → List ℕ
printed table = header_line (widths_of table) ++ flat_map (row_line table (widths_of table)) table.rows
