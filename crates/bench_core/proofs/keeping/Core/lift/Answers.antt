use Rattle.std.proofs.Common.{◌≡◌, ◌∷◌, [], ◌++◌, ◌∙◌, None, ap, refl, subst, sym}
use Rattle.std.specs.Vec.{with_items}
use Rattle.std.proofs.lemmas.List.{with_items_is}
use Rattle.bench_item.specs.declared.step.Step.TheVariants as steps
use Rattle.bench_spec.specs.Refusal.{refusal}
use Rattle.bench_spec.specs.Rules.{listening}
use Rattle.bench_spec.specs.Taken.{Takes}
use Rattle.bench_spec.proofs.BookLemmas.{entry_of}
use Rattle.line_message.specs.Hearing.{Hearing}
use Rattle.bench_views.specs.Behind.{lifted_from}
use Rattle.bench_views.specs.Looks.{next_of}
use Rattle.bench_views.specs.Stored.{Stored}
use Rattle.bench_carry.specs.Placed.{ArePlaced}
use Rattle.bench_carry.specs.Seen.{CanBeLifted, with_seen}
use Rattle.bench_carry.specs.Undone.{undone}
use Rattle.bench_core.specs.Inside.{IsShardCount, paused_in, settings_in, stored_in}
use Rattle.bench_core.proofs.CarryLemmas.{pauses, pauses-lifted, placed-more, run_by, settings-same, settings_with}
use Rattle.bench_core.proofs.LiftLemmas.{can_be_lifted, lift-after, lift-takes}
use Rattle.bench_core.proofs.keeping.Core.lift.Goals as goal

pub lift_at-undo-requires : goal.lift_at-undo-requires
lift_at-undo-requires c =
    let w = c.self.inside in
    let could = subst (λ run. refusal run.settings run.log run.paused (steps.Lift c.args.source) ≡ None) (sym c.self.view_is) c.requires in
    let can : CanBeLifted c.args.source w.shards.items w.outboxes.items =
    can_be_lifted (settings_in w) w.log.entries (paused_in w) (stored_in w) w.outboxes.items w.undo.records c.args.source c.self.invariant.whole refl could in
    subst (λ shards. CanBeLifted c.args.source shards c.deref_mut-2.result.now) (sym c.deref_mut.ensures.value)
    (subst (CanBeLifted c.args.source w.shards.items) (sym c.deref_mut-2.ensures.value) can)

-- the step is not refused
could : (c : goal.After-put-2) → refusal (settings_in c.self.inside) c.self.inside.log.entries (paused_in c.self.inside) (steps.Lift c.args.source) ≡ None
could c = subst (λ run. refusal run.settings run.log run.paused (steps.Lift c.args.source) ≡ None) (sym c.self.view_is) c.requires

-- the log has the entry
is_after : (c : goal.After-put-2) → c.put.new.self.entries ≡ c.self.inside.log.entries ++ entry_of (steps.Lift c.args.source) (next_of c.args.source (stored_in c.self.inside)) None ∷ []
is_after c =
    let w = c.self.inside in
    let item = rw (c.deref.ensures.value, c.deref-2.ensures.value) at (c.in_ok-item.ensures (stored_in w)) in
    ap (λ l. l.entries) c.put.ensures.added
    ∙ ap (λ es. es ++ c.of_lift-entry.result ∷ []) c.make_room.ensures.entries
    ∙ ap (λ e. w.log.entries ++ e ∷ []) (c.of_lift-entry.ensures ∙ ap (λ i. entry_of (steps.Lift c.args.source) i None) item)

-- the parts behind it are those that were written
abbrev after : (c : goal.After-put-2) → Stored
after c =
    let w = c.self.inside in
    with_seen (stored_in w) (with_items w.shards c.lift_at-undo.new.shards).items (with_items w.outboxes c.lift_at-undo.new.outboxes).items c.lift_at-undo.new.lines.lines

is_written : (c : goal.After-put-2) → after c ≡ with_seen (stored_in c.self.inside) c.lift_at-undo.new.shards c.lift_at-undo.new.outboxes c.lift_at-undo.new.lines.lines
is_written c =
    let w = c.self.inside in
    let shards = with_items_is w.shards c.lift_at-undo.new.shards (c.lift_at-undo.auto.shards ∙ c.deref_mut.ensures.len) in
    let outboxes = with_items_is w.outboxes c.lift_at-undo.new.outboxes (c.lift_at-undo.auto.outboxes ∙ c.deref_mut-2.ensures.len) in
    ap (λ xs. with_seen (stored_in w) xs (with_items w.outboxes c.lift_at-undo.new.outboxes).items c.lift_at-undo.new.lines.lines) shards
    ∙ ap (λ os. with_seen (stored_in w) c.lift_at-undo.new.shards os c.lift_at-undo.new.lines.lines) outboxes

-- they are those from which it was lifted, and are taken back
is_lifted : (c : goal.After-put-2) → after c ≡ lifted_from c.args.source (stored_in c.self.inside)
is_lifted c = is_written c ∙ rw (c.deref_mut.ensures.value, c.deref_mut-2.ensures.value) at (c.lift_at-undo.ensures.lifted (stored_in c.self.inside))

is_undone : (c : goal.After-put-2) → undone c.lift_at-undo.result (after c) ≡ stored_in c.self.inside
is_undone c =
    ap (undone c.lift_at-undo.result) (is_written c)
    ∙ rw (c.deref_mut.ensures.value, c.deref_mut-2.ensures.value) at (c.lift_at-undo.ensures.undone (stored_in c.self.inside))

-- the settings are the same
same : (c : goal.After-put-2) → settings_with c.self.inside c.lift_at-undo.new.lines.rules ≡ settings_in c.self.inside
same c = settings-same c.self.inside c.lift_at-undo.new.lines.rules c.lift_at-undo.ensures.rules

-- there is one more record
is_more : (c : goal.After-put-2) → c.put-2.new.self.records ≡ c.self.inside.undo.records ++ c.lift_at-undo.result ∷ []
is_more c = ap (λ l. l.records) c.put-2.ensures ∙ ap (λ rs. rs ++ c.lift_at-undo.result ∷ []) c.make_room.ensures.records

pub invariant_of-self-2 : goal.invariant_of-self-2
invariant_of-self-2 c =
    let w = c.self.inside in
    let rules = c.lift_at-undo.ensures.rules in
    record {
      whole =
          lift-after (settings_in w) (settings_with w c.lift_at-undo.new.lines.rules) w.log.entries c.put.new.self.entries (paused_in w) (stored_in w)
          (after c) w.undo.records c.put-2.new.self.records c.args.source c.lift_at-undo.result
          c.self.invariant.whole (could c) (is_lifted c) (is_undone c) c.lift_at-undo.ensures.unbooked (same c) (is_after c) (is_more c);
      listens = rules ∙ c.self.invariant.listens ∙ ap listening (sym (same c));
      pages = c.self.invariant.pages;
      paged = c.self.invariant.paged;
      shards = subst (λ (r : Hearing). IsShardCount r.peers.shards) (sym rules) c.self.invariant.shards;
      placed = subst (ArePlaced w.wheel) (sym (is_more c)) (placed-more w.wheel w.undo.records c.lift_at-undo.result c.self.invariant.placed (c.lift_at-undo.ensures.placed w.wheel));
    }

pub returns-clause-ok : goal.returns-clause-ok
returns-clause-ok c =
    let w = c.self.inside in
    subst (λ run. Takes run (run_by (settings_with w c.lift_at-undo.new.lines.rules) c.put.new.self.entries (pauses (after c).shards)) (steps.Lift c.args.source)) c.self.view_is
    (lift-takes (settings_in w) (settings_with w c.lift_at-undo.new.lines.rules) w.log.entries c.put.new.self.entries (paused_in w) (pauses (after c).shards) (stored_in w) w.undo.records c.args.source
    c.self.invariant.whole (could c) (same c) (is_after c) (ap (λ (s : Stored). pauses s.shards) (is_lifted c) ∙ pauses-lifted c.args.source (stored_in w)))
