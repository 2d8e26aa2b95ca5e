use Rattle.std.proofs.Common.{◌∙◌, None, Option, Some, ap, option_to_list, sym}
use Rattle.bench_item.specs.declared.item.Item.{Item}
use Rattle.bench_node.specs.Timed.{after_items}
use Rattle.bench_node.proofs.TimedLemmas.{other_item, timed_as, timed_beside, timed_by}
use Rattle.tick_wheel.specs.Timers.{after_arm, with_timer_of}
use Rattle.bench_node.proofs.node.LiveNode.drop_of_shard.Goals.{in-Dial, in-Arm, in-Disarm, in_default-item}
use Rattle.bench_node.proofs.node.LiveNode.drop_of_shard.Goals as goal

-- nothing lies there
pub returns-in_default-clause-timed : goal.returns-in_default-clause-timed
returns-in_default-clause-timed c =
    timed_beside c.args.shard c.order.result c.drop_plain.result c.args.self.now c.drop_plain.new.self c.args.timers.now c.order.ensures
    (ap (λ (item : Option Item). after_items c.args.timers.now (option_to_list item)) (sym c.in_default.is))
    c.drop_plain.ensures.took

-- a dial, an arm, a disarm, or another item
pub returns-clause-timed : goal.returns-clause-timed
returns-clause-timed c =
    let after : Option Item → _ = λ item. after_items c.args.timers.now (option_to_list item) in
    elim c.match-item.branch [
      | in-Dial w ↦
          timed_as w.drop_dial.result c.match-item.result c.args.self.now w.drop_dial.new.self c.match-item.self c.args.timers.now c.args.timers.now c.match-item.timers
          w.result-is w.self-is w.timers-is
          (timed_beside c.args.shard c.order.result w.drop_dial.result c.args.self.now w.drop_dial.new.self c.args.timers.now c.order.ensures
          (ap after (sym (c.in-Some.is ∙ ap Some w.in-Dial.is))) w.drop_dial.ensures.took)
      | in-Arm w ↦
          timed_as w.drop_arm.result c.match-item.result c.args.self.now w.drop_arm.new.self c.match-item.self c.args.timers.now w.drop_arm.new.timers c.match-item.timers
          w.result-is w.self-is w.timers-is
          (timed_by c.args.shard c.order.result w.drop_arm.result c.args.self.now w.drop_arm.new.self c.args.timers.now
          (after_arm c.args.timers.now w.in-Arm.machine w.in-Arm.generation w.in-Arm.ticks) w.drop_arm.new.timers c.order.ensures
          (ap after (sym (c.in-Some.is ∙ ap Some w.in-Arm.is))) w.drop_arm.ensures.took w.drop_arm.ensures.armed)
      | in-Disarm w ↦
          timed_as w.drop_disarm.result c.match-item.result c.args.self.now w.drop_disarm.new.self c.match-item.self c.args.timers.now w.drop_disarm.new.timers
          c.match-item.timers w.result-is w.self-is w.timers-is
          (timed_by c.args.shard c.order.result w.drop_disarm.result c.args.self.now w.drop_disarm.new.self c.args.timers.now
          (with_timer_of c.args.timers.now w.in-Disarm.machine None) w.drop_disarm.new.timers c.order.ensures
          (ap after (sym (c.in-Some.is ∙ ap Some w.in-Disarm.is))) w.drop_disarm.ensures.took w.drop_disarm.ensures.disarmed)
      | in_default-item w ↦
          timed_as w.drop_plain-in_default-item.result c.match-item.result c.args.self.now w.drop_plain-in_default-item.new.self c.match-item.self c.args.timers.now
          c.args.timers.now c.match-item.timers w.result-is w.self-is w.timers-is
          (timed_beside c.args.shard c.order.result w.drop_plain-in_default-item.result c.args.self.now w.drop_plain-in_default-item.new.self c.args.timers.now
          c.order.ensures
          (other_item c.in-Some.item c.args.timers.now w.in_default-item.not-Arm w.in_default-item.not-Disarm ∙ ap after (sym c.in-Some.is))
          w.drop_plain-in_default-item.ensures.took)
    ]
