use Rattle.thread_node.proofs.DoingLemmas.{does_on}
use Rattle.thread_node.proofs.node.ThreadNode.draw_lines.Goals as goal

pub lines-preserved : goal.lines-preserved
lines-preserved g c = does_on _ _ _ c.lines.drawn _ c.lines.invariant c.in_ok-drawn.ensures.done
