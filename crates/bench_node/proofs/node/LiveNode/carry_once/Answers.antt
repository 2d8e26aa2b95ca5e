use Rattle.bench_node.proofs.TimedLemmas.{timed_then}
use Rattle.bench_node.proofs.node.LiveNode.carry_once.Goals as goal

-- what was dropped, and then what was lifted
pub returns-clause-timed : goal.returns-clause-timed
returns-clause-timed c =
    timed_then c.args.source c.lift.result c.args.self.now c.drop_item.new.self c.lift.new.self c.args.timers.now c.drop_item.new.timers
    c.in_ok-drop_item.ensures.timed c.lift.ensures.took
