use Rattle.std.proofs.Common.{◌≡◌, ◌≤◌, length, map}
use Rattle.std.specs.Prelude.{None}
use Rattle.std.specs.List.{list_any}
use Rattle.bench_item.specs.declared.item.Item.TheVariants.{ToMachine}
use Rattle.bench_item.specs.declared.source.Source.TheVariants.{Desk}
use Rattle.bench_looks.specs.Before.{before_till}
use Rattle.bench_looks.specs.Tallies.{AreMet, came, is_key, left_after, taken_keys}
use Rattle.bench_parts.specs.Views.{kept_in}
use Rattle.bench_spec.specs.Items.{dropped, worked}
use Rattle.bench_spec.specs.Machines.{moves_of}
use Rattle.bench_looks.proofs.tally.tally_of.Given as goal

-- what the entries at the places so far say
abbrev pub invariant-loop-place : goal.invariant-loop-place
invariant-loop-place l =
    let so_far = before_till l.look.stamp l.place (kept_in l.part) in
    record {
      met : AreMet (map ToMachine l.told) (dropped so_far (Desk l.desk)) l.met;
      came : l.all.items ≡ came l.shards l.shard l.desk so_far;
      worked : l.count ≡ length (worked so_far l.shard);
      few : l.count ≤ l.place;
      left : l.left ≡ left_after None (moves_of so_far l.look.key);
      there : l.there ≡ list_any (is_key l.look.key) (taken_keys so_far);
    }
