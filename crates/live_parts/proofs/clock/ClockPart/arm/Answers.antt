use Rattle.std.proofs.Common.{◌∙◌, nat_eq, ap, map, refl}
use Rattle.std.specs.Arc.{arc_value}
use Rattle.indexmap.specs.IndexMap.{insert_entry}
use Rattle.bench_spec.specs.Merged.{Stamped}
use Rattle.live_parts.specs.Clocks.{Known}
use Rattle.live_parts.proofs.ClockLemmas.{arm-put, arm-view, put-entries}
use Rattle.live_parts.proofs.LineLemmas.{put-log}
use Rattle.live_parts.proofs.clock.ClockPart.arm.Goals as goal

pub invariant_of-self-2 : goal.invariant_of-self-2
invariant_of-self-2 c =
    let i = c.self.inside in
    arm-put i.wheel c.arm.new.self i.keys.entries c.know.new.keys.entries i.outbox.view i.outbox.view (map (λ (s : Stamped). s.entry) i.log.entries) _
    c.args.source c.args.machine c.args.generation c.args.ticks c.args.key.now c.in_ok-arm.ensures.ok
    (c.know.ensures ∙ ap (λ (es : Known). insert_entry nat_eq es c.args.machine c.in_ok-own.own) c.in_ok-reserve-2.ensures.entries
    ∙ ap (insert_entry nat_eq i.keys.entries c.args.machine) c.in_ok-own.ensures)
    refl
    (put-log i.log c.reserve.new.self c.put.new.self c.args.stamp _ _ c.in_ok-reserve.ensures.entries c.put.ensures c.in_ok-entry.ensures) c.self.invariant

pub returns-clause-ok : goal.returns-clause-ok
returns-clause-ok c =
    let i = c.self.inside in
    arm-view (arc_value i.roles).laws i.wheel c.arm.new.self i.keys.entries c.know.new.keys.entries i.outbox.view i.outbox.view i.log.entries c.put.new.self.entries
    c.args.source c.args.machine c.args.generation c.args.ticks c.args.key.now c.args.stamp c.args.self.now c.self.view_is c.in_ok-arm.ensures.ok
    (c.know.ensures ∙ ap (λ (es : Known). insert_entry nat_eq es c.args.machine c.in_ok-own.own) c.in_ok-reserve-2.ensures.entries
    ∙ ap (insert_entry nat_eq i.keys.entries c.args.machine) c.in_ok-own.ensures)
    refl
    (put-entries i.log c.reserve.new.self c.put.new.self c.args.stamp _ _ c.in_ok-reserve.ensures.entries c.put.ensures c.in_ok-entry.ensures)
