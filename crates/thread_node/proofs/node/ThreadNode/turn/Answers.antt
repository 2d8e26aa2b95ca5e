use Rattle.thread_node.proofs.DoingLemmas.{does_on}
use Rattle.thread_node.proofs.node.ThreadNode.turn.Goals as goal

pub returns-clause-done : goal.returns-clause-done
returns-clause-done g c =
    does_on _ _ _ _ _ (does_on _ _ _ _ _ c.in_ok-told.ensures.done c.carry_lines-carried.ensures)
    c.in_ok-drawn.ensures.done
