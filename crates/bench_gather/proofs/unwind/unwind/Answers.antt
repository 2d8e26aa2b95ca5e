use Rattle.std.proofs.Common.{arith, refl}
use Rattle.bench_gather.proofs.ReplayLemmas.{unwound-all, unwound-more}
use Rattle.bench_gather.proofs.unwind.unwind.Goals as goal

pub loop-step-init : goal.loop-step-init
loop-step-init c = record { same = refl; left = omega arith }

pub loop-step-preserved : goal.loop-step-preserved
loop-step-preserved c =
    let count = c.place-count.ensures in
    let within = c.loop-step-test.true in
    unwound-more c.args.core.now c.loop-step.core c.back.new.self c.loop-step._step c.back.result c.loop-step.invariant
    (omega (arith, count, within)) c.back.ensures.ok c.back.ensures.none

pub returns : goal.returns
returns c =
    let count = c.place-count.ensures in
    let over = c.loop-step-test.false in
    unwound-all c.args.core.now c.loop-step.core c.loop-step._step c.loop-step.invariant (omega (arith, count, over))
