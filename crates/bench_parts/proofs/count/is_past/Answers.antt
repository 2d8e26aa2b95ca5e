use Rattle.std.proofs.Common.{◌∙◌, ap, length}
use Rattle.bench_parts.specs.Views.{entries_in}
use Rattle.bench_parts.specs.declared.view.Lent.{Lent}
use Rattle.bench_parts.proofs.ViewLemmas.{over}
use Rattle.bench_parts.proofs.count.is_past.Goals as goal

pub returns-then-left-count : goal.returns-then-left-count
returns-then-left-count c =
    over c.loop-part.left c.count_in-count.result c.args.parts.now c.loop-part.part-index _ c.loop-part.invariant
    (c.count_in-count.ensures ∙ ap (λ (p : Lent). length (entries_in p)) c.part-item.is) c.if-left-count.true
    c.loop-part-test.true
