use Rattle.bench_log.proofs.CopyLemmas.{copied-more}
use Rattle.bench_log.proofs.moved.keep_deeds.Goals as goal

pub loop-deed-preserved : goal.loop-deed-preserved
loop-deed-preserved c =
    copied-more c.args.plain.now c.loop-deed.kept.items c.push.new.self.items c.loop-deed.deed-index _ _ c.loop-deed-test.true c.loop-deed.invariant c.in_ok-keep.ensures.kept c.in_ok-push.ensures.items
