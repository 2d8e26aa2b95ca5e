use Rattle.std.proofs.Common.{◌≡◌, ◌++◌, take}
use Rattle.std.specs.List.{enumerate_from, flat_map}
use Rattle.tab_draw.specs.Drawing.{arrow}
use Rattle.tab_draw.proofs.graph.put_arrows_from.Given as goal

-- the arrows so far are put
abbrev pub invariant-loop-to : goal.invariant-loop-to
invariant-loop-to l = l.out.items ≡ l.initial.out.items ++ flat_map (arrow l.table (l.from, l.name)) (enumerate_from 0 (take l.to l.table.states))
