use Rattle.std.proofs.Common.{map}
use Rattle.std.specs.Arc.{arc_value}
use Rattle.bench_spec.specs.Merged.{Stamped}
use Rattle.live_parts.proofs.ClockLemmas.{disarm-put, disarm-view, put-entries}
use Rattle.live_parts.proofs.LineLemmas.{put-log}
use Rattle.live_parts.proofs.clock.ClockPart.disarm.Goals as goal

pub invariant_of-self-2 : goal.invariant_of-self-2
invariant_of-self-2 c =
    let i = c.self.inside in
    disarm-put i.wheel c.disarm.new.self i.keys.entries i.outbox.view (map (λ (s : Stamped). s.entry) i.log.entries) _ c.args.source c.args.machine
    c.disarm.ensures
    (put-log i.log c.reserve.new.self c.put.new.self c.args.stamp _ _ c.in_ok-reserve.ensures.entries c.put.ensures c.in_ok-entry.ensures) c.self.invariant

pub returns-clause-ok : goal.returns-clause-ok
returns-clause-ok c =
    let i = c.self.inside in
    disarm-view (arc_value i.roles).laws i.wheel c.disarm.new.self i.keys.entries i.outbox.view i.log.entries c.put.new.self.entries c.args.source
    c.args.machine c.args.stamp c.args.self.now c.self.view_is c.disarm.ensures
    (put-entries i.log c.reserve.new.self c.put.new.self c.args.stamp _ _ c.in_ok-reserve.ensures.entries c.put.ensures c.in_ok-entry.ensures)
