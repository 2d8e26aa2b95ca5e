use Rattle.std.proofs.Common.{◌∙◌}
use Rattle.bench_node.proofs.GoingLemmas.{goes_on}
use Rattle.bench_node.proofs.TimedLemmas.{leaves_on}
use Rattle.bench_node.proofs.WentLemmas.{works_more}
use Rattle.bench_node.proofs.node.LiveNode.work_all.Goals as goal

-- one shard more
pub shards-preserved : goal.shards-preserved
shards-preserved g c =
    let one = c.in_ok-work.ensures in
    record {
      goes = goes_on c.args.self.now c.shards.self c.work.new.self c.shards.invariant.goes one.goes;
      same = one.same ∙ c.shards.invariant.same;
      timed = leaves_on c.args.self.now c.shards.self c.work.new.self c.shards.invariant.timed one.timed;
      went = works_more c.shards.shard c.shards.went c.in_ok-work.field-0 c.either-went.result c.args.self.now c.shards.self c.work.new.self c.either-went.ensures c.shards.invariant.went one.went;
    }
