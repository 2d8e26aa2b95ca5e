use Rattle.std.proofs.Common.{◌∙◌, Option, ap, map}
use Rattle.std.specs.Prelude.{option_to_list}
use Rattle.std.specs.Arc.{arc_value}
use Rattle.bench_item.specs.declared.item.Item.{Item}
use Rattle.bench_queue.specs.Outbox.{OutboxState, put_out}
use Rattle.bench_spec.specs.Merged.{Stamped}
use Rattle.live_parts.proofs.ClockLemmas.{fire-put, fire-view, put-entries}
use Rattle.live_parts.proofs.LineLemmas.{put-log}
use Rattle.live_parts.proofs.clock.ClockPart.fire.Goals as goal

pub invariant_of-self-2 : goal.invariant_of-self-2
invariant_of-self-2 c =
    let i = c.self.inside in
    fire-put i.wheel c.disarm.new.self i.keys.entries i.outbox.view c.put_out.new.outbox.view (map (λ (s : Stamped). s.entry) i.log.entries) _
    c.args.machine c.args.generation c.in_ok-item.item c.disarm.ensures
    (c.put_out.ensures ∙ ap (λ (s : OutboxState). put_out s.view (option_to_list c.in_ok-post.post)) c.in_ok-reserve-2.ensures.ok
    ∙ ap (λ (o : Option Item). put_out i.outbox.view (option_to_list o)) c.in_ok-post.ensures)
    (put-log i.log c.reserve.new.self c.put.new.self c.args.stamp _ _ c.in_ok-reserve.ensures.entries c.put.ensures c.in_ok-entry.ensures) c.self.invariant

pub returns-clause-ok : goal.returns-clause-ok
returns-clause-ok c =
    let i = c.self.inside in
    fire-view (arc_value i.roles).laws i.wheel c.disarm.new.self i.keys.entries i.outbox.view c.put_out.new.outbox.view i.log.entries c.put.new.self.entries
    c.args.machine c.args.generation c.args.stamp c.in_ok-item.item c.args.self.now c.self.view_is c.disarm.ensures
    (c.put_out.ensures ∙ ap (λ (s : OutboxState). put_out s.view (option_to_list c.in_ok-post.post)) c.in_ok-reserve-2.ensures.ok
    ∙ ap (λ (o : Option Item). put_out i.outbox.view (option_to_list o)) c.in_ok-post.ensures)
    (put-entries i.log c.reserve.new.self c.put.new.self c.args.stamp _ _ c.in_ok-reserve.ensures.entries c.put.ensures c.in_ok-entry.ensures)
    c.in_ok-item.ensures
