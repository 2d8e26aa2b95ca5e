use Rattle.std.proofs.Common.{◌∙◌, ◌++◌, ap, arith, option_to_list, sym}
use Rattle.std.proofs.lemmas.List.Concat.{flat_map-append}
use Rattle.bench_item.specs.declared.entry.Entry.{Entry}
use Rattle.bench_looks.specs.Before.{before_till}
use Rattle.bench_looks.specs.Tallies.{tells, told_by}
use Rattle.bench_looks.proofs.BeforeLemmas.{till-all, till-next}
use Rattle.bench_parts.specs.Views.{kept_in}
use Rattle.bench_looks.proofs.told.told_before.Goals as goal

pub loop-place-preserved : goal.loop-place-preserved
loop-place-preserved c =
    let kept = kept_in c.args.part.now in
    let xs = option_to_list c.in_ok-entry.entry in
    let told = told_by c.args.shards c.args.shard c.args.desk in
    let so_far = before_till c.args.stamp c.loop-place.place kept in
    c.in_ok-add_told.ensures ∙ ap (λ items. items ++ told xs) c.loop-place.invariant
    ∙ sym (ap told (till-next c.args.stamp c.loop-place.place kept xs c.in_ok-entry.ensures)
    ∙ flat_map-append (λ (e : Entry). tells c.args.shards c.args.shard c.args.desk e.step) so_far xs)

pub returns : goal.returns
returns c =
    let kept = kept_in c.args.part.now in
    let over = c.loop-place-test.false in
    let all = c.places-count.ensures in
    c.loop-place.invariant
    ∙ ap (told_by c.args.shards c.args.shard c.args.desk)
    (till-all c.args.stamp c.loop-place.place kept (omega (arith, over, all)))
