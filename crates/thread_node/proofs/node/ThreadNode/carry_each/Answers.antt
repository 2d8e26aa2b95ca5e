use Rattle.thread_node.proofs.DoingLemmas.{does_on}
use Rattle.thread_node.proofs.node.ThreadNode.carry_each.Goals as goal

pub lines-preserved : goal.lines-preserved
lines-preserved g c = does_on _ _ _ c.lines.carried _ c.lines.invariant c.carry_touched-carried.ensures
