use Rattle.std.proofs.Common.{◌∙◌}
use Rattle.bench_node.proofs.GoingLemmas.{goes_on}
use Rattle.bench_node.proofs.TimedLemmas.{timed_on}
use Rattle.bench_node.proofs.WentLemmas.{desks_more}
use Rattle.bench_node.proofs.node.LiveNode.carry_desks.Goals as goal

-- one desk more
pub desks-preserved : goal.desks-preserved
desks-preserved c =
    let one = c.in_ok-carry.ensures in
    record {
      goes = goes_on c.args.self.now c.desks.self c.carry.new.self c.desks.invariant.goes one.goes;
      same = one.same ∙ c.desks.invariant.same;
      timed = timed_on c.args.self.now c.desks.self c.args.timers.now c.desks.timers c.carry.new.self c.carry.new.timers c.desks.invariant.timed one.timed;
      went = desks_more c.desks.desk c.desks.went c.in_ok-carry.field-0 c.either-went.result c.args.self.now c.desks.self c.carry.new.self c.either-went.ensures c.desks.invariant.went one.went;
    }
