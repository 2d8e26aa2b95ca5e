use Rattle.std.proofs.Common.{rules, ◌<◌, length, arith, sym, ◌∙◌}
use Rattle.tab_asm.proofs.CodeLemmas.{row-in, row-out, row-longer}
use Rattle.tab_asm.proofs.code.put_entry.Goals as goal
use Rattle.tab_asm.proofs.code.put_entry.Goals.{then-is_in+in_ok-put_row, else-is_in}

pub loop-number-preserved : goal.loop-number-preserved
loop-number-preserved c =
    let table = c.args.table.now in
    let same = c.rows.ensures.rows in
    let below : c.loop-number.number < length table.rows = rw (← same) (search rules) in
    elim c.if-is_in.branch [
      | then-is_in+in_ok-put_row w ↦ (
          let put = w.in_ok-put_row.ensures.ok in
          let is = sym c.is_in.ensures ∙ w.if-is_in.true in
          let code = row-in table c.args.entry c.loop-number.number c.rows.result.now c.index-rows-number.result c.args.code.now.items c.loop-number.code.items w.put_row.new.code.items same below c.index-rows-number.is is c.loop-number.invariant.code put in
          let longer = row-longer _ _ _ (c.loop-number.number, c.index-rows-number.result) put in
          rw w.code-is (record { code = code; few = omega (arith, longer, w.in_ok-put_row.ensures.few, c.loop-number.invariant.few) })
          )
      | else-is_in w ↦ (
          let is = sym c.is_in.ensures ∙ w.if-is_in.false in
          let out = row-out table c.args.entry c.loop-number.number c.rows.result.now c.index-rows-number.result same below c.index-rows-number.is is in
          rw (w.code-is, out) (record { code = c.loop-number.invariant.code; few = omega (arith, c.loop-number.invariant.few) })
          )
    ]
