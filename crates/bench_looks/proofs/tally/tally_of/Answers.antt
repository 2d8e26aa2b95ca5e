use Rattle.std.proofs.Common.{◌≡◌, ◌++◌, ◌+◌, arith, map, option_to_list}
use Rattle.bench_item.specs.declared.item.Item.TheVariants.{ToMachine}
use Rattle.bench_item.specs.declared.item.MachineItem.{MachineItem}
use Rattle.bench_looks.specs.Before.{before_till}
use Rattle.bench_looks.proofs.BeforeLemmas.{till-next}
use Rattle.bench_looks.proofs.TallyLemmas.{came-next, left-next, met-next, there-next, worked-next}
use Rattle.bench_parts.specs.Views.{kept_in}
use Rattle.bench_looks.proofs.tally.tally_of.Goals as goal

pub loop-place-preserved : goal.loop-place-preserved
loop-place-preserved c =
    let stamp = c.args.look.now.stamp in
    let key = c.args.look.now.key in
    let kept = kept_in c.args.part.now in
    let told = map (λ (i : MachineItem). ToMachine i) c.args.told.now in
    let xs = option_to_list c.in_ok-entry.entry in
    let so_far = before_till stamp c.loop-place.place kept in
    let more = before_till stamp (c.loop-place.place + 1) kept in
    let e : more ≡ so_far ++ xs = till-next stamp c.loop-place.place kept xs c.in_ok-entry.ensures in
    let few = c.loop-place.invariant.few in
    let one = c.worked_in-count.ensures.few in
    record {
      met = met-next told c.args.desk so_far xs more c.loop-place.met c.met_after-met.result e
          c.met_after-met.ensures c.loop-place.invariant.met;
      came = came-next c.args.shards c.args.shard c.args.desk so_far xs more c.loop-place.all.items
          c.add_came.new.all.items e c.in_ok-add_came.ensures c.loop-place.invariant.came;
      worked = worked-next c.args.shard so_far xs more c.loop-place.count c.worked_in-count.result e
          c.worked_in-count.ensures.count c.loop-place.invariant.worked;
      few = omega (arith, few, one);
      left = left-next key so_far xs more c.loop-place.left c.left_by-left.result e c.left_by-left.ensures
          c.loop-place.invariant.left;
      there = there-next key so_far xs more c.loop-place.there c.is_there-there.result e c.is_there-there.ensures
          c.loop-place.invariant.there;
    }
