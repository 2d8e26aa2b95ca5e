use Rattle.std.proofs.Common.{◌≡◌, ◌++◌, take}
use Rattle.std.specs.List.{enumerate_from, flat_map}
use Rattle.tab_walk.specs.Whys.{row_why}
use Rattle.tab_walk.proofs.why.put_rows.Given as goal

-- the rows so far are put
abbrev pub invariant-loop-number : goal.invariant-loop-number
invariant-loop-number l =
    l.out.items
    ≡ l.initial.out.items ++ flat_map (row_why l.bound.table l.book l.machine l.event) (take l.number (enumerate_from 0 l.bound.table.rows))
