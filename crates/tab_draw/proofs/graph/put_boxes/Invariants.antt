use Rattle.std.proofs.Common.{◌≡◌, ◌++◌, take}
use Rattle.std.specs.List.{enumerate_from, flat_map}
use Rattle.tab_draw.specs.Drawing.{box_text}
use Rattle.tab_draw.proofs.graph.put_boxes.Given as goal

-- the states so far are put
abbrev pub invariant-loop-state : goal.invariant-loop-state
invariant-loop-state l = l.out.items ≡ l.initial.out.items ++ flat_map (box_text l.table) (enumerate_from 0 (take l.state l.table.states))
