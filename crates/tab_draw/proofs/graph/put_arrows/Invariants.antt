use Rattle.std.proofs.Common.{◌≡◌, ◌++◌, take}
use Rattle.std.specs.List.{enumerate_from, flat_map}
use Rattle.tab_draw.specs.Drawing.{arrows_from}
use Rattle.tab_draw.proofs.graph.put_arrows.Given as goal

-- the arrows so far are put
abbrev pub invariant-loop-from : goal.invariant-loop-from
invariant-loop-from l = l.out.items ≡ l.initial.out.items ++ flat_map (arrows_from l.table) (enumerate_from 0 (take l.from l.table.states))
