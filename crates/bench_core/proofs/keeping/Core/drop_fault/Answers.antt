use Rattle.std.proofs.Common.{◌≡◌, ◌∙◌, None, refl, subst}
use Rattle.std.specs.Prelude.{◌||◌, not}
use Rattle.bench_item.specs.declared.step.Step.TheVariants as steps
use Rattle.bench_item.specs.declared.step.StepFault.TheVariants.{Full}
use Rattle.bench_spec.specs.Refusal.{refusal}
use Rattle.bench_core.specs.Inside.{paused_in, settings_in, stored_in}
use Rattle.bench_core.proofs.CarryFaults.{has_source-log, drop-log, three-by, two-by}
use Rattle.bench_core.proofs.LegalLemmas.{legal_order}
use Rattle.bench_core.proofs.LineFaults.{full-log}
use Rattle.bench_core.proofs.keeping.Core.drop_fault.Goals as goal

pub returns : goal.returns
returns c =
    let w = c.self.inside in
    let tied = c.self.invariant.whole.tied in
    let order = legal_order (settings_in w) w.log.entries c.self.invariant.whole.legal in
    let there = rw (c.deref.ensures.value, c.deref-2.ensures.value) at c.has_source-there.ensures in
    let in_hand = rw (c.deref-3.ensures.value, c.deref-4.ensures.value, c.deref-5.ensures.value) at (c.has_hand-in_hand.ensures (stored_in w)) in
    let crowded = rw (c.deref-6.ensures.value, c.deref-7.ensures.value, c.deref-8.ensures.value) at (c.hand_lacks_room-crowded.ensures (stored_in w)) in
    subst (λ run. c.held.result ≡ refusal run.settings run.log run.paused (steps.Drop c.args.source)) c.self.view_is
    (three-by (not c.has_source-there.result) (not c.has_hand-in_hand.result) (c.is_full-full.result || c.hand_lacks_room-crowded.result)
    c.held.result c.held-idle.result c.held-late.result
    (two-by c.is_full-full.result c.hand_lacks_room-crowded.result Full c.held-late.result c.held-jammed.result None c.held-jammed.ensures c.held-late.ensures)
    c.held-idle.ensures c.held.ensures
    ∙ drop-log (settings_in w) w.log.entries (paused_in w) (stored_in w) c.args.source c.has_source-there.result c.has_hand-in_hand.result c.hand_lacks_room-crowded.result c.is_full-full.result
    tied order c.self.invariant.shards.0 (there ∙ has_source-log (settings_in w) w.log.entries (stored_in w) w.outboxes.items c.args.source tied refl) in_hand crowded
    (c.is_full-full.ensures ∙ full-log w.log.entries))
