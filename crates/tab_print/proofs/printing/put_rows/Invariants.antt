use Rattle.std.proofs.Common.{◌≡◌, ◌++◌, take}
use Rattle.std.specs.List.{flat_map}
use Rattle.tab_print.specs.Printed.{row_line}
use Rattle.tab_print.proofs.printing.put_rows.Given as goal

-- the lines of the rows so far are put
abbrev pub invariant-loop-row : goal.invariant-loop-row
invariant-loop-row l = l.out.items ≡ l.initial.out.items ++ flat_map (row_line l.table l.widths) (take l.row-index l.table.rows)
