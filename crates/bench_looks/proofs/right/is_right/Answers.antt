use Rattle.std.proofs.Common.{◌≡◌, ◌∙◌, ◌+◌, ap, arith, filter, length, map, subst, sym, take}
use Rattle.std.specs.Bool.{Decides}
use Rattle.bench_item.specs.Keys.{home}
use Rattle.bench_item.specs.declared.item.Item.TheVariants.{ToMachine}
use Rattle.bench_item.specs.declared.item.MachineItem.{MachineItem}
use Rattle.bench_item.specs.declared.source.Source.TheVariants.{Desk}
use Rattle.bench_looks.specs.Before.{before}
use Rattle.bench_looks.specs.Tallies.{AreMet, is_all}
use Rattle.bench_looks.proofs.RightLemmas.{right-decides}
use Rattle.bench_parts.specs.Views.{kept_in, look_of}
use Rattle.bench_spec.specs.Items.{dropped}
use Rattle.bench_spec.specs.Merged.{IsRight}
use Rattle.bench_looks.proofs.right.is_right.Goals as goal

pub returns : goal.returns
returns c =
    let settings = c.args.core.now.settings in
    let look = look_of c.args.look.now in
    let of_shard = before look.stamp (kept_in c.args.of_shard.now) in
    let of_desk = before look.stamp (kept_in c.args.of_desk.now) in
    let told = c.in_ok-told.told in
    let tally = c.in_ok-tally.tally in
    let handled = c.handled_of-handled.result in
    let whole = told.ok.0 in
    let first = c.len.ensures in
    let second = c.len-2.ensures in
    let long : c.len.result ≡ length told.items = omega (arith, whole, first) in
    let long_too : c.len-2.result ≡ length told.items = omega (arith, whole, second) in
    subst
    (λ b. Decides b (IsRight settings c.args.desk (home settings.node.shards look.key.name) of_shard of_desk look))
    (sym c.are_all.ensures)
    (right-decides settings c.args.desk of_shard of_desk look c.shards-shards.result c.home-shard.result told.items
    tally.came.items tally.worked handled tally.met c.is_all-all.result c.are_these-counted.result c.in_ok-so.so
    (record {
      shards_are = c.shards-shards.ensures.count;
      shard_is = c.home-shard.ensures.is;
      told_is = c.in_ok-told.ensures;
      met_is =
          subst
          (λ ts. AreMet (map (λ (i : MachineItem). ToMachine i) ts) (dropped of_shard (Desk c.args.desk)) tally.met)
          c.deref.ensures.value c.in_ok-tally.ensures.met;
      all_is = c.is_all-all.ensures ∙ ap (λ n. is_all n tally.met) long_too;
      own_is = c.in_ok-tally.ensures.came;
      works_is = c.in_ok-tally.ensures.worked;
      handled_is = c.handled_of-handled.ensures
          ∙ ap (λ bs. length (filter (λ b. b) (take tally.worked bs))) c.deref-2.ensures.value;
      counted_is =
          subst
          (λ n. Decides c.are_these-counted.result
          ((look.handled ≡ handled) × (look.waiting + look.handled ≡ n))) long c.are_these-counted.ensures;
      so_is = c.in_ok-so.ensures;
    }))
