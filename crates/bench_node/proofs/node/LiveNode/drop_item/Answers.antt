use Rattle.bench_node.proofs.TimedLemmas.{timed_other}
use Rattle.bench_node.proofs.node.LiveNode.drop_item.Goals as goal

-- a source that is no shard
pub returns-in_default : goal.returns-in_default
returns-in_default c = record {
  timed = timed_other c.args.source c.drop_plain.result c.args.self.now c.drop_plain.new.self c.args.timers.now c.in_default.not-Shard c.drop_plain.ensures.took;
  took = c.drop_plain.ensures.took;
  goes = c.drop_plain.ensures.goes;
  same = c.drop_plain.ensures.same;
}
