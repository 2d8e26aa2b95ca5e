use Rattle.std.proofs.Common.{◌≡◌, ◌+◌, ◌-◌, ◌∙◌, sym, arith}
use Rattle.event_text.proofs.ZeroLemmas.{without_last_zeros-value, without_last_zeros-zero}
use Rattle.log_text.proofs.compare.without_last_zeros.Goals as goal

-- the value before the end isn't 0
pub returns-then-values-end-ne0 : goal.returns-then-values-end-ne0
returns-then-values-end-ne0 c =
    let last : c.loop-end.end - 1 + 1 ≡ c.loop-end.end = omega arith in
    let same = rw last at (without_last_zeros-value c.args.values.now (c.loop-end.end - 1) (omega arith) c.if-values-end-ne0.true) in
    sym same ∙ c.loop-end.invariant.0

-- the value before the end is 0
pub loop-end-preserved : goal.loop-end-preserved
loop-end-preserved c =
    let last : c.loop-end.end - 1 + 1 ≡ c.loop-end.end = omega arith in
    let same = rw last at (without_last_zeros-zero c.args.values.now (c.loop-end.end - 1) (omega arith) c.if-values-end-ne0.false) in
    (sym same ∙ c.loop-end.invariant.0, omega arith)
