use Rattle.std.proofs.Common.{◌≡◌, ◌∙◌, ◌++◌, ◌+◌, Some, ap, drop, refl}
use Rattle.bench_line.specs.Lines.{item_on}
use Rattle.bench_core.specs.Waiting.{put_out_on}
use Rattle.bench_core.proofs.WaitingLemmas.{copied-all, copied-more}
use Rattle.bench_core.proofs.waiting.waiting_on.Goals as goal

pub returns-in-None : goal.returns-in-None
returns-in-None c = copied-all c.args.lines.now.lines c.args.line c.loop-place.place c.loop-place.items.items c.in-None.ensures c.loop-place.invariant

pub loop-place-preserved : goal.loop-place-preserved
loop-place-preserved c =
    let lines = c.args.lines.now.lines in
    let item = c.in_ok-show-in-Some.field-0 in
    let there : Some item ≡ item_on lines c.args.line c.loop-place.place = ap Some c.in_ok-show-in-Some.ensures ∙ c.in-Some.ensures in
    ap (λ items. items ++ drop (c.loop-place.place + 1) (put_out_on lines c.args.line)) c.in_ok-push-in-Some.ensures.items
    ∙ copied-more lines c.args.line c.loop-place.place (c.loop-place.place + 1) c.loop-place.items.items item refl there c.loop-place.invariant
