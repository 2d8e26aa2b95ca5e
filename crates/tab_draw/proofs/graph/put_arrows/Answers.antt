use Rattle.std.proofs.Common.{ℕ, List, ◌++◌, ap, ◌∙◌}
use Rattle.tab_draw.specs.Drawing.{arrows_from}
use Rattle.tab_draw.proofs.NumberedLemmas.{numbered-more}
use Rattle.tab_draw.proofs.graph.put_arrows.Goals as goal

pub loop-from-preserved : goal.loop-from-preserved
loop-from-preserved c =
    let put = c.in_ok-put_arrows_from.ensures ∙ ap (λ (name : List ℕ). c.loop-from.out.items ++ arrows_from c.args.table.now (c.loop-from.from, name)) c.as_slice.ensures in
    numbered-more (arrows_from c.args.table.now) c.args.table.now.states _ c.loop-from.from c.name-item.result c.args.out.now.items c.loop-from.out.items _ (c.as_slice-name-items.ensures ∙ c.states.ensures.names) c.loop-from-test.true c.name-item.is c.loop-from.invariant put
