use Rattle.std.proofs.Common.{Bool, subst}
use Rattle.thread_node.specs.Nodes.{Does}
use Rattle.thread_node.proofs.DoingLemmas.{does_then}
use Rattle.thread_node.proofs.node.ThreadNode.draw_open.Goals as goal

-- nothing was drawn at first
pub returns-else-not-drawn-clause-done : goal.returns-else-not-drawn-clause-done
returns-else-not-drawn-clause-done g c =
    does_then _ _ _ _
    (subst (λ (done : Bool). Does c.args.self.now c.draw.new.self done) c.if-branch.false c.in_ok-draw.ensures.done)
    c.in_ok-drawn.ensures.done
