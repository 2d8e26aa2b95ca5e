use Rattle.std.proofs.Common.{[], arith, option_to_list, subst, sym}
use Rattle.bench_looks.specs.Before.{before_till}
use Rattle.bench_looks.specs.Brought.{AreBrought}
use Rattle.bench_looks.proofs.BeforeLemmas.{till-all, till-next}
use Rattle.bench_looks.proofs.PlaceLemmas.{brought-nil}
use Rattle.bench_parts.specs.Views.{kept_in}
use Rattle.bench_looks.proofs.brought.brought.Goals as goal

pub loop-place-init : goal.loop-place-init
loop-place-init c =
    subst (AreBrought c.args.core.now.settings.node c.args.shard []) (sym c.new-keys.ensures.items)
    (brought-nil c.args.core.now.settings.node c.args.shard)

pub loop-place-preserved : goal.loop-place-preserved
loop-place-preserved c =
    let kept = kept_in c.args.part.now in
    let xs = option_to_list c.in_ok-entry.entry in
    subst (λ es. AreBrought c.args.core.now.settings.node c.args.shard es c.add_brought.new.keys.items)
    (sym (till-next c.args.stamp c.loop-place.place kept xs c.in_ok-entry.ensures))
    (c.in_ok-add_brought.ensures (before_till c.args.stamp c.loop-place.place kept) c.loop-place.invariant)

pub returns : goal.returns
returns c =
    let kept = kept_in c.args.part.now in
    let over = c.loop-place-test.false in
    let all = c.places-end.ensures in
    subst (λ es. AreBrought c.args.core.now.settings.node c.args.shard es c.loop-place.keys.items)
    (till-all c.args.stamp c.loop-place.place kept (omega (arith, over, all))) c.loop-place.invariant
