use Rattle.tab_role.proofs.StepLemmas.{with-argument}
use Rattle.tab_role.proofs.step.message_terms.Goals as goal

pub loop-n-preserved : goal.loop-n-preserved
loop-n-preserved c =
    with-argument c.args.head.now c.args.services c.loop-n.n _ _ _ c.argument.ensures c.in_ok-push.ensures.items c.loop-n.invariant
