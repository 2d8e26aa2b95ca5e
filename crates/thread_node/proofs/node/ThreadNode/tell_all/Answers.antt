use Rattle.thread_node.proofs.DoingLemmas.{does_on}
use Rattle.thread_node.proofs.node.ThreadNode.tell_all.Goals as goal

pub desks-preserved : goal.desks-preserved
desks-preserved g c = does_on _ _ _ c.desks.told _ c.desks.invariant c.in_ok-told.ensures.done
