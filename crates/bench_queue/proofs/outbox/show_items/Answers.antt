use Rattle.std.proofs.Common.{◌∙◌}
use Rattle.bench_queue.proofs.ShownLemmas.{shown-more}
use Rattle.bench_queue.proofs.outbox.show_items.Goals as goal

pub loop-item-preserved : goal.loop-item-preserved
loop-item-preserved c =
    shown-more c.args.kept.now c.loop-item.plain.items c.push.new.self.items c.loop-item.item-index _ _ c.loop-item-test.true c.loop-item.invariant (c.in_ok-show.ensures ∙ c.item-item.is) c.in_ok-push.ensures.items
