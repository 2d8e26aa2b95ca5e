use Rattle.std.proofs.Common.{◌≡◌, ◌∷◌, [], ◌++◌, ◌∙◌, None, ap, refl, subst, sym}
use Rattle.std.specs.Prelude.{option_to_list}
use Rattle.bench_item.specs.Keys.{node_of}
use Rattle.bench_item.specs.declared.step.Step.TheVariants as steps
use Rattle.bench_queue.specs.Outbox.{put_out}
use Rattle.bench_spec.specs.Refusal.{refusal}
use Rattle.bench_spec.specs.Taken.{Takes, with_log}
use Rattle.bench_spec.proofs.BookLemmas.{entry_of}
use Rattle.bench_undo.specs.declared.undo.Undo.TheVariants as undo
use Rattle.bench_core.specs.Firings.{fired}
use Rattle.bench_core.specs.Inside.{paused_in, run_in, settings_in, stored_in}
use Rattle.bench_core.proofs.FireLemmas.{fired-follows, fired-placed, fired-sound, fired_armed}
use Rattle.bench_core.proofs.LegalLemmas.{legal_order}
use Rattle.bench_core.proofs.keeping.Core.fire.Goals as goal

-- what is put out
posts : (c : goal.After-put-2) → option_to_list c.in_ok-item.item ≡ fired (settings_in c.self.inside).node c.self.inside.shards.items c.args.machine c.args.generation
posts c =
    c.in_ok-item.ensures c.self.inside.lines.rules.peers
    ∙ ap (λ laws. fired (node_of laws c.self.inside.lines.rules.peers) c.deref.result.now c.args.machine c.args.generation) c.laws-laws.ensures
    ∙ ap (λ shards. fired (settings_in c.self.inside).node shards c.args.machine c.args.generation) c.deref.ensures.value

-- the log has the entry
is_after : (c : goal.After-put-2) → c.put.new.self.entries ≡ c.self.inside.log.entries ++ entry_of (steps.Fired c.args.machine c.args.generation) c.in_ok-item.item None ∷ []
is_after c =
    ap (λ l. l.entries) c.put.ensures.added
    ∙ ap (λ es. es ++ c.in_ok-entry.entry ∷ []) c.make_room.ensures.entries
    ∙ ap (λ e. c.self.inside.log.entries ++ e ∷ []) c.in_ok-entry.ensures

-- the record is there
is_more : (c : goal.After-put-2) → c.put-2.new.self.records ≡ c.self.inside.undo.records ++ undo.Fired c.args.machine c.armed-old.result c.put_out-posted.result ∷ []
is_more c =
    ap (λ l. l.records) c.put-2.ensures
    ∙ ap (λ rs. rs ++ undo.Fired c.args.machine c.armed-old.result c.put_out-posted.result ∷ []) c.make_room.ensures.records

-- the step is not refused
could : (c : goal.After-put-2) → refusal (settings_in c.self.inside) c.self.inside.log.entries (paused_in c.self.inside) (steps.Fired c.args.machine c.args.generation) ≡ None
could c = subst (λ run. refusal run.settings run.log run.paused (steps.Fired c.args.machine c.args.generation) ≡ None) (sym c.self.view_is) c.requires

pub invariant_of-self-2 : goal.invariant_of-self-2
invariant_of-self-2 c =
    let w = c.self.inside in
    record {
      whole =
          fired-sound (settings_in w) w.log.entries c.put.new.self.entries (paused_in w) (stored_in w) w.outboxes.items c.put_out-posted.new.outbox c.index_mut-outbox.result.now c.disarm.new.self.armed
          w.undo.records c.put-2.new.self.records c.args.machine c.args.generation c.in_ok-item.item c.armed-old.result c.put_out-posted.result
          c.self.invariant.whole refl (could c) (posts c) (is_after c)
          (ap (λ v. v.armed) c.disarm.ensures)
          (is_more c) c.armed-old.ensures.armed
          c.index_mut-outbox.ensures.value
          (c.put_out-posted.ensures.put
          ∙ ap (λ o. put_out o.view (option_to_list c.in_ok-post.post)) c.in_ok-reserve.ensures.ok
          ∙ ap (λ i. put_out c.index_mut-outbox.result.now.view (option_to_list i)) c.in_ok-post.ensures)
          (c.put_out-posted.ensures.undone ∙ ap (λ o. o.view) c.in_ok-reserve.ensures.ok);
      listens = c.self.invariant.listens;
      pages = c.self.invariant.pages;
      paged = c.self.invariant.paged;
      shards = c.self.invariant.shards;
      placed =
          fired-placed w.wheel c.disarm.new.self w.undo.records c.put-2.new.self.records c.args.machine c.armed-old.result c.put_out-posted.result
          (ap (λ v. v.places) c.disarm.ensures) (is_more c)
          (c.armed-old.ensures.placed
          (fired_armed (settings_in w) w.log.entries (paused_in w) c.args.machine c.args.generation w.wheel.armed c.armed-old.result (could c) c.self.invariant.whole.tied.timers c.armed-old.ensures.armed))
          c.self.invariant.placed;
    }

pub returns-clause-ok : goal.returns-clause-ok
returns-clause-ok c =
    let w = c.self.inside in
    subst (λ run. Takes run (with_log (run_in w) c.put.new.self.entries) (steps.Fired c.args.machine c.args.generation)) c.self.view_is (record {
      entry = entry_of (steps.Fired c.args.machine c.args.generation) c.in_ok-item.item None;
      of_step = refl;
      could = could c;
      follows = fired-follows (settings_in w) w.log.entries (paused_in w) (stored_in w) c.args.machine c.args.generation c.in_ok-item.item (legal_order (settings_in w) w.log.entries c.self.invariant.whole.legal) c.self.invariant.whole.tied (could c) (posts c);
      grown = ap (with_log (run_in w)) (is_after c);
    })
