use Rattle.std.proofs.Common.{◌∙◌}
use Rattle.bench_log.proofs.CopyLemmas.{copied-more}
use Rattle.bench_log.proofs.moved.show_chain.Goals as goal

pub loop-regs-preserved : goal.loop-regs-preserved
loop-regs-preserved c =
    copied-more c.args.kept.now c.loop-regs.plain.items c.push.new.self.items c.loop-regs.regs-index _ _ c.loop-regs-test.true c.loop-regs.invariant (c.show.ensures ∙ c.regs-item.is) c.in_ok-push.ensures.items
