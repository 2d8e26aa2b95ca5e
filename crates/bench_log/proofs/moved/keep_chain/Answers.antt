use Rattle.bench_log.proofs.CopyLemmas.{copied-more}
use Rattle.bench_log.proofs.moved.keep_chain.Goals as goal

pub loop-regs-preserved : goal.loop-regs-preserved
loop-regs-preserved c =
    copied-more c.args.plain.now c.loop-regs.kept.items c.push.new.self.items c.loop-regs.regs-index _ _ c.loop-regs-test.true c.loop-regs.invariant c.in_ok-keep.ensures.kept c.in_ok-push.ensures.items
