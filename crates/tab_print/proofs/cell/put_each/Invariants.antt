use Rattle.std.proofs.Common.{◌≡◌, ◌++◌, take, map}
use Rattle.tab_print.specs.Cells.{name_at, behind_each}
use Rattle.tab_print.proofs.cell.put_each.Given as goal

-- the names so far are put
abbrev pub invariant-loop-number : goal.invariant-loop-number
invariant-loop-number l =
    l.out.items ≡ l.initial.out.items ++ behind_each l.before (map (name_at l.names) (take l.number-index l.numbers))
