use Rattle.std.proofs.Common.{arith, refl}
use Rattle.tab_role.proofs.StepLemmas.{with-kept, all-kept}
use Rattle.tab_role.proofs.step.keep_services.Goals as goal

pub loop-i-preserved : goal.loop-i-preserved
loop-i-preserved c = with-kept c.loop-i.i _ _ _ _ _ refl refl c.in_ok-push.ensures.items c.loop-i.invariant

pub returns : goal.returns
returns c = all-kept c.loop-i.i _ _ (omega (arith, c.loop-i-test.false)) c.loop-i.invariant
