use Rattle.std.proofs.Common.{arith, ◌∙◌}
use Rattle.dia_dict.proofs.BaseLemmas.{line_free, with_line}
use Rattle.dia_dict.proofs.table.Table.base.Goals as goal

pub append-requires : goal.append-requires
append-requires c =
    line_free _ c.loop-code.code-index _ _ _ c.lines-code-items.ensures (c.in_ok-from_slice.ensures.copy ∙ c.as_bytes.ensures.value) c.loop-code.invariant (omega arith)

pub loop-code-preserved : goal.loop-code-preserved
loop-code-preserved c =
    with_line _ c.loop-code.code-index _ _ _ _ (c.in_ok-from_slice.ensures.copy ∙ c.as_bytes.ensures.value) c.in_ok-append.ensures.ok c.loop-code.invariant (omega arith)
