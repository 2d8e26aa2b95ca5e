use Rattle.std.proofs.Common.{◌≡◌, ◌∙◌, Bool, ap, is_ok, subst, sym}
use Rattle.thread_node.specs.Nodes.{Does}
use Rattle.thread_node.proofs.node.ThreadNode.carry_both.Goals.{in-Ok, in-Err+else-not-is_done}
use Rattle.thread_node.proofs.DoingLemmas.{does_after, does_last}
use Rattle.thread_node.proofs.node.ThreadNode.carry_both.Goals as goal

-- something is lifted
pub returns-in-Ok-carry : goal.returns-in-Ok-carry
returns-in-Ok-carry g c = does_after _ _ _ (is_ok c.carry.result) c.carry.ensures c.in-Ok-carry.ensures

-- nothing is: something was done if it was dropped
pub returns-in-Err-carry : goal.returns-in-Err-carry
returns-in-Err-carry g c =
    let same : is_ok c.carry.result ≡ c.match-carry.dropped = elim c.match-carry.branch [
      | in-Ok w ↦ ap is_ok w.in-Ok.is ∙ sym w.dropped-is
      | in-Err+else-not-is_done w ↦ ap is_ok w.in-Err.is ∙ sym w.dropped-is
    ]
    in
    subst (λ (done : Bool). Does c.args.self.now c.carry-2.new.self done) same
    (does_last _ _ _ (is_ok c.carry.result) c.carry.ensures c.in-Err-carry.ensures)
