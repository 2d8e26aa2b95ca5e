use Rattle.std.proofs.Common.{◌≡◌, ◌∷◌, [], ◌++◌, ◌∙◌, None, ap, refl, subst, sym}
use Rattle.bench_item.specs.declared.step.Step.TheVariants as steps
use Rattle.bench_queue.specs.Outbox.{put_out}
use Rattle.bench_spec.specs.Refusal.{refusal}
use Rattle.bench_spec.specs.Taken.{Takes, with_log}
use Rattle.bench_spec.proofs.BookLemmas.{entry_of}
use Rattle.bench_undo.specs.declared.undo.Undo.TheVariants as undo
use Rattle.bench_views.proofs.Distinct.{Each-append}
use Rattle.bench_carry.specs.Placed.{ArePlaced, IsPlaced}
use Rattle.bench_core.specs.Inside.{paused_in, run_in, settings_in, stored_in}
use Rattle.bench_core.proofs.LegalLemmas.{legal_order}
use Rattle.bench_core.proofs.TellLemmas.{told-follows, told-sound}
use Rattle.bench_core.proofs.keeping.Core.tell.Goals as goal

-- the log has the entry
is_after : (c : goal.After-put-3) → c.put-2.new.self.entries ≡ c.self.inside.log.entries ++ entry_of (steps.Told c.args.desk c.args.key c.args.event) None None ∷ []
is_after c =
    ap (λ l. l.entries) c.put-2.ensures.added
    ∙ ap (λ es. es ++ c.in_ok-entry.entry ∷ []) c.make_room.ensures.entries
    ∙ ap (λ e. c.self.inside.log.entries ++ e ∷ []) c.in_ok-entry.ensures

-- the step is not refused
could : (c : goal.After-put-3) → refusal (settings_in c.self.inside) c.self.inside.log.entries (paused_in c.self.inside) (steps.Told c.args.desk c.args.key c.args.event) ≡ None
could c = subst (λ run. refusal run.settings run.log run.paused (steps.Told c.args.desk c.args.key c.args.event) ≡ None) (sym c.self.view_is) c.requires

pub invariant_of-self-2 : goal.invariant_of-self-2
invariant_of-self-2 c =
    let w = c.self.inside in
    record {
      whole =
          told-sound (settings_in w) w.log.entries c.put-2.new.self.entries (paused_in w) (stored_in w) w.outboxes.items c.put.new.self c.index_mut-outbox.result.now w.undo.records c.put-3.new.self.records c.args.desk c.args.key c.args.event
          c.self.invariant.whole refl (could c) (is_after c)
          (ap (λ l. l.records) c.put-3.ensures ∙ ap (λ rs. rs ++ undo.Told c.args.desk ∷ []) c.make_room.ensures.records)
          c.index_mut-outbox.ensures.value
          (ap (λ o. o.view) c.put.ensures.put ∙ ap (λ o. put_out o.view (c.in_ok-item.item ∷ [])) c.in_ok-reserve.ensures.ok ∙ ap (λ i. put_out c.index_mut-outbox.result.now.view (i ∷ [])) c.in_ok-item.ensures)
          (c.put.ensures.undone ∙ ap (λ o. o.view) c.in_ok-reserve.ensures.ok);
      listens = c.self.invariant.listens;
      pages = c.self.invariant.pages;
      paged = c.self.invariant.paged;
      shards = c.self.invariant.shards;
      placed = subst (ArePlaced w.wheel) (sym (ap (λ l. l.records) c.put-3.ensures ∙ ap (λ rs. rs ++ undo.Told c.args.desk ∷ []) c.make_room.ensures.records)) (Each-append (IsPlaced w.wheel) w.undo.records (undo.Told c.args.desk ∷ []) c.self.invariant.placed (tt, tt));
    }

pub returns-clause-ok : goal.returns-clause-ok
returns-clause-ok c =
    let w = c.self.inside in
    subst (λ run. Takes run (with_log (run_in w) c.put-2.new.self.entries) (steps.Told c.args.desk c.args.key c.args.event)) c.self.view_is (record {
      entry = entry_of (steps.Told c.args.desk c.args.key c.args.event) None None;
      of_step = refl;
      could = could c;
      follows = told-follows (settings_in w) w.log.entries (paused_in w) (stored_in w) c.args.desk c.args.key c.args.event (legal_order (settings_in w) w.log.entries c.self.invariant.whole.legal) c.self.invariant.whole.tied (could c);
      grown = ap (with_log (run_in w)) (is_after c);
    })
