use Rattle.thread_node.proofs.DoingLemmas.{does_on}
use Rattle.thread_node.proofs.node.ThreadNode.draw.Goals as goal

pub returns-then-count-lt-PIECE-clause-done : goal.returns-then-count-lt-PIECE-clause-done
returns-then-count-lt-PIECE-clause-done g c = does_on _ _ _ c.pieces.drawn _ c.pieces.invariant c.in_ok-count.ensures.done

pub pieces-preserved : goal.pieces-preserved
pieces-preserved g c = does_on _ _ _ c.pieces.drawn _ c.pieces.invariant c.in_ok-count.ensures.done
