use Rattle.std.proofs.Common.{◌∙◌}
use Rattle.bench_log.proofs.CopyLemmas.{copied-more}
use Rattle.bench_log.proofs.moved.show_deeds.Goals as goal

pub loop-deed-preserved : goal.loop-deed-preserved
loop-deed-preserved c =
    copied-more c.args.kept.now c.loop-deed.plain.items c.push.new.self.items c.loop-deed.deed-index _ _ c.loop-deed-test.true c.loop-deed.invariant (c.show.ensures ∙ c.deed-item.is) c.in_ok-push.ensures.items
