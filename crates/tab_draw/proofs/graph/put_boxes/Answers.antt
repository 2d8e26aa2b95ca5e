use Rattle.std.proofs.Common.{ℕ, List, ◌++◌, ap, ◌∙◌}
use Rattle.tab_draw.specs.Drawing.{box_text}
use Rattle.tab_draw.proofs.NumberedLemmas.{numbered-more}
use Rattle.tab_draw.proofs.graph.put_boxes.Goals as goal

pub loop-state-preserved : goal.loop-state-preserved
loop-state-preserved c =
    let put = c.in_ok-put_box.ensures ∙ ap (λ (name : List ℕ). c.loop-state.out.items ++ box_text c.args.table.now (c.loop-state.state, name)) c.as_slice.ensures in
    numbered-more (box_text c.args.table.now) c.args.table.now.states _ c.loop-state.state c.name-item.result c.args.out.now.items c.loop-state.out.items _ (c.as_slice-name-items.ensures ∙ c.states.ensures.names) c.loop-state-test.true c.name-item.is c.loop-state.invariant put
