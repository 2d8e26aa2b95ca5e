use Rattle.std.proofs.Common.{◌∙◌}
use Rattle.bench_node.proofs.GoingLemmas.{goes_on}
use Rattle.bench_node.proofs.TimedLemmas.{timed_on}
use Rattle.bench_node.proofs.WentLemmas.{shards_more}
use Rattle.bench_node.proofs.node.LiveNode.carry_shards.Goals as goal

-- one shard more
pub shards-preserved : goal.shards-preserved
shards-preserved c =
    let one = c.in_ok-carry.ensures in
    record {
      goes = goes_on c.args.self.now c.shards.self c.carry.new.self c.shards.invariant.goes one.goes;
      same = one.same ∙ c.shards.invariant.same;
      timed = timed_on c.args.self.now c.shards.self c.args.timers.now c.shards.timers c.carry.new.self c.carry.new.timers c.shards.invariant.timed one.timed;
      went = shards_more c.shards.shard c.shards.went c.in_ok-carry.field-0 c.either-went.result c.args.self.now c.shards.self c.carry.new.self c.either-went.ensures c.shards.invariant.went one.went;
    }
