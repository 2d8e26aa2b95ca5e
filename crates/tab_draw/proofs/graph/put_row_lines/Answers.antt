use Rattle.tab_draw.specs.Drawing.{row_line}
use Rattle.tab_draw.proofs.NumberedLemmas.{numbered-more}
use Rattle.tab_draw.proofs.graph.put_row_lines.Goals as goal

pub loop-number-preserved : goal.loop-number-preserved
loop-number-preserved c =
    numbered-more (row_line c.args.table.now c.args.from c.args.to) c.args.table.now.rows _ c.loop-number.number c.row-item.result c.args.out.now.items c.loop-number.out.items _ c.rows-row-items.ensures.rows c.loop-number-test.true c.row-item.is c.loop-number.invariant c.in_ok-put_row_line.ensures
