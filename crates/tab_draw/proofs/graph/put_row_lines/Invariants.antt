use Rattle.std.proofs.Common.{◌≡◌, ◌++◌, take}
use Rattle.std.specs.List.{enumerate_from, flat_map}
use Rattle.tab_draw.specs.Drawing.{row_line}
use Rattle.tab_draw.proofs.graph.put_row_lines.Given as goal

-- the lines of the rows so far are put
abbrev pub invariant-loop-number : goal.invariant-loop-number
invariant-loop-number l = l.out.items ≡ l.initial.out.items ++ flat_map (row_line l.table l.from l.to) (enumerate_from 0 (take l.number l.table.rows))
