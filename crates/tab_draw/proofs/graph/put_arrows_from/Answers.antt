use Rattle.std.proofs.Common.{ℕ, List, ◌++◌, ap, ◌∙◌}
use Rattle.tab_draw.specs.Drawing.{arrow}
use Rattle.tab_draw.proofs.NumberedLemmas.{numbered-more}
use Rattle.tab_draw.proofs.graph.put_arrows_from.Goals as goal

pub loop-to-preserved : goal.loop-to-preserved
loop-to-preserved c =
    let put = c.in_ok-put_arrow.ensures ∙ ap (λ (name : List ℕ). c.loop-to.out.items ++ arrow c.args.table.now (c.args.from, c.args.name.now) (c.loop-to.to, name)) c.as_slice.ensures in
    numbered-more (arrow c.args.table.now (c.args.from, c.args.name.now)) c.args.table.now.states _ c.loop-to.to c.to_name-item.result c.args.out.now.items c.loop-to.out.items _ (c.as_slice-to_name-items.ensures ∙ c.states.ensures.names) c.loop-to-test.true c.to_name-item.is c.loop-to.invariant put
