use Rattle.std.proofs.Common.{◌≡◌, take, map, max, fold}
use Rattle.tab_print.specs.Cells.{heading, cell_text}
use Rattle.tab_print.specs.Printed.{room}
use Rattle.tab_print.proofs.printing.width.Given as goal

-- the widest of the heading and the cells so far
abbrev pub invariant-loop-row : goal.invariant-loop-row
invariant-loop-row l =
    l.widest ≡ fold max (room (heading l.column)) (map (λ row. room (cell_text l.table l.column row)) (take l.row-index l.table.rows))
