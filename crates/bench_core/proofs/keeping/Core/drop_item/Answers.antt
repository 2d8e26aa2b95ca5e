use Rattle.std.proofs.Common.{◌≡◌, ◌∷◌, [], ◌++◌, ◌∙◌, None, Some, false, ap, refl, subst, sym}
use Rattle.std.specs.Vec.{with_items}
use Rattle.std.proofs.lemmas.List.{with_items_is}
use Rattle.bench_item.specs.declared.step.Step.TheVariants as steps
use Rattle.bench_spec.specs.Refusal.{refusal}
use Rattle.bench_spec.specs.Rules.{listening}
use Rattle.bench_spec.specs.Taken.{Takes}
use Rattle.line_message.specs.Hearing.{Hearing}
use Rattle.bench_views.specs.Looks.{hand_of}
use Rattle.bench_views.specs.Stored.{Stored, meaning_of}
use Rattle.bench_carry.specs.Dropped.{DropsTo, meaning_to, with_parts}
use Rattle.bench_carry.specs.Hands.{CanBeDropped, lacks_room}
use Rattle.bench_carry.specs.Placed.{ArePlaced}
use Rattle.bench_carry.specs.Undone.{undone}
use Rattle.bench_core.specs.Inside.{IsShardCount, paused_in, settings_in, stored_in}
use Rattle.bench_core.proofs.CarryLemmas.{pauses, placed-more, placed-still, run_by, settings-same, settings_with, whole-same}
use Rattle.bench_core.proofs.DropLemmas.{can_be_dropped, drop-after, drop-hand, drop-room, drop-takes, dropped_log, pauses-dropped}
use Rattle.bench_core.proofs.keeping.Core.drop_item.Goals as goal

pub unreachable-requires : goal.unreachable-requires
unreachable-requires c =
    let w = c.self.inside in
    let could = subst (λ run. refusal run.settings run.log run.paused (steps.Drop c.args.source) ≡ None) (sym c.self.view_is) c.requires in
    let hand = rw (c.deref.ensures.value, c.deref-2.ensures.value, c.deref-3.ensures.value) at (c.in_ok-item.ensures (stored_in w)) in
    drop-hand (settings_in w) w.log.entries (paused_in w) (stored_in w) w.undo.records c.args.source c.self.invariant.whole could (sym hand ∙ c.in-None.is)

pub drop_at-requires-clause-held : goal.drop_at-requires-clause-held
drop_at-requires-clause-held c =
    let w = c.self.inside in
    let could = subst (λ run. refusal run.settings run.log run.paused (steps.Drop c.args.source) ≡ None) (sym c.self.view_is) c.requires in
    let can : CanBeDropped c.args.source w.shards.items w.outboxes.items w.lines.lines w.carried.items =
    can_be_dropped (settings_in w) w.log.entries (paused_in w) (stored_in w) w.outboxes.items w.undo.records c.args.source c.self.invariant.whole refl could in
    subst (λ shards. CanBeDropped c.args.source shards c.deref_mut-2.result.now w.lines.lines w.carried.items) (sym c.deref_mut.ensures.value)
    (subst (λ outs. CanBeDropped c.args.source w.shards.items outs w.lines.lines w.carried.items) (sym c.deref_mut-2.ensures.value) can)

pub drop_at-requires-clause-room : goal.drop_at-requires-clause-room
drop_at-requires-clause-room c =
    let w = c.self.inside in
    let could = subst (λ run. refusal run.settings run.log run.paused (steps.Drop c.args.source) ≡ None) (sym c.self.view_is) c.requires in
    let hand = rw (c.deref.ensures.value, c.deref-2.ensures.value, c.deref-3.ensures.value) at (c.in_ok-item.ensures (stored_in w)) in
    subst (λ shards. lacks_room shards w.lines.lines c.in-Some.item ≡ false) (sym c.deref_mut.ensures.value)
    (drop-room (settings_in w) w.log.entries (paused_in w) (stored_in w) w.undo.records c.args.source c.in-Some.item c.self.invariant.whole c.self.invariant.shards.0 could (sym hand ∙ c.in-Some.is))

-- memory was refused: all is as before
pub invariant_of-self-in_err-undo : goal.invariant_of-self-in_err-undo
invariant_of-self-in_err-undo c =
    let w = c.self.inside in
    let same = c.in_err-undo.ensures.err in
    let rules = c.drop_at.ensures.rules in
    let shards = with_items_is w.shards c.drop_at.new.shards (c.drop_at.auto.shards ∙ c.deref_mut.ensures.len) ∙ same.0 ∙ c.deref_mut.ensures.value in
    let outboxes = with_items_is w.outboxes c.drop_at.new.outboxes (c.drop_at.auto.outboxes ∙ c.deref_mut-2.ensures.len) ∙ same.1 ∙ c.deref_mut-2.ensures.value in
    let kept : with_parts (stored_in w) (with_items w.shards c.drop_at.new.shards).items (with_items w.outboxes c.drop_at.new.outboxes).items c.drop_at.new.lines.lines c.drop_at.new.carried.items c.drop_at.new.wheel.armed ≡ stored_in w =
    ap (λ x. with_parts (stored_in w) x (with_items w.outboxes c.drop_at.new.outboxes).items c.drop_at.new.lines.lines c.drop_at.new.carried.items c.drop_at.new.wheel.armed) shards
    ∙ ap (λ x. with_parts (stored_in w) w.shards.items x c.drop_at.new.lines.lines c.drop_at.new.carried.items c.drop_at.new.wheel.armed) outboxes
    ∙ ap (λ x. with_parts (stored_in w) w.shards.items w.outboxes.items x.lines c.drop_at.new.carried.items c.drop_at.new.wheel.armed) same.2
    ∙ ap (λ x. with_parts (stored_in w) w.shards.items w.outboxes.items w.lines.lines x c.drop_at.new.wheel.armed) same.3
    ∙ ap (λ x. with_parts (stored_in w) w.shards.items w.outboxes.items w.lines.lines w.carried.items x.armed) same.4 in
    let settings = settings-same w c.drop_at.new.lines.rules rules in
    record {
      whole =
          whole-same (settings_in w) (settings_with w c.drop_at.new.lines.rules) w.log.entries c.make_room.new.log.entries (stored_in w)
          (with_parts (stored_in w) (with_items w.shards c.drop_at.new.shards).items (with_items w.outboxes c.drop_at.new.outboxes).items c.drop_at.new.lines.lines c.drop_at.new.carried.items c.drop_at.new.wheel.armed)
          w.undo.records c.make_room.new.undo.records settings c.make_room.ensures.entries kept c.make_room.ensures.records c.self.invariant.whole;
      listens = rules ∙ c.self.invariant.listens ∙ ap listening (sym settings);
      pages = c.self.invariant.pages;
      paged = c.self.invariant.paged;
      shards = subst (λ (r : Hearing). IsShardCount r.peers.shards) (sym rules) c.self.invariant.shards;
      placed =
          subst (ArePlaced c.drop_at.new.wheel) (sym c.make_room.ensures.records)
          (placed-still w.wheel c.drop_at.new.wheel w.undo.records c.drop_at.ensures.places c.self.invariant.placed);
    }

-- the step is not refused, and an item lies in the hand
could : (c : goal.After-put-2) → refusal (settings_in c.self.inside) c.self.inside.log.entries (paused_in c.self.inside) (steps.Drop c.args.source) ≡ None
could c = subst (λ run. refusal run.settings run.log run.paused (steps.Drop c.args.source) ≡ None) (sym c.self.view_is) c.requires

held : (c : goal.After-put-2) → hand_of c.args.source (stored_in c.self.inside) ≡ Some c.in-Some.item
held c =
    let hand = rw (c.deref.ensures.value, c.deref-2.ensures.value, c.deref-3.ensures.value) at (c.in_ok-item.ensures (stored_in c.self.inside)) in
    sym hand ∙ c.in-Some.is

-- the log has the entry
is_after : (c : goal.After-put-2) → c.put.new.self.entries ≡ dropped_log c.self.inside.log.entries c.args.source c.in-Some.item
is_after c =
    ap (λ l. l.entries) c.put.ensures.added
    ∙ ap (λ es. es ++ c.of_drop-entry.result ∷ []) c.make_room.ensures.entries
    ∙ ap (λ e. c.self.inside.log.entries ++ e ∷ []) c.of_drop-entry.ensures

-- the parts before and behind it are those that were written
abbrev after : (c : goal.After-put-2) → Stored
after c =
    let w = c.self.inside in
    with_parts (stored_in w) (with_items w.shards c.drop_at.new.shards).items (with_items w.outboxes c.drop_at.new.outboxes).items c.drop_at.new.lines.lines c.drop_at.new.carried.items c.drop_at.new.wheel.armed

abbrev written : (c : goal.After-put-2) → Stored
written c = with_parts (stored_in c.self.inside) c.drop_at.new.shards c.drop_at.new.outboxes c.drop_at.new.lines.lines c.drop_at.new.carried.items c.drop_at.new.wheel.armed

abbrev before : (c : goal.After-put-2) → Stored
before c =
    let w = c.self.inside in
    with_parts (stored_in w) c.deref_mut.result.now c.deref_mut-2.result.now w.lines.lines w.carried.items w.wheel.armed

is_written : (c : goal.After-put-2) → after c ≡ written c
is_written c =
    let w = c.self.inside in
    let n = c.drop_at.new in
    let shards = with_items_is w.shards n.shards (c.drop_at.auto.shards ∙ c.deref_mut.ensures.len) in
    let outboxes = with_items_is w.outboxes n.outboxes (c.drop_at.auto.outboxes ∙ c.deref_mut-2.ensures.len) in
    ap (λ x. with_parts (stored_in w) x (with_items w.outboxes n.outboxes).items n.lines.lines n.carried.items n.wheel.armed) shards
    ∙ ap (λ x. with_parts (stored_in w) n.shards x n.lines.lines n.carried.items n.wheel.armed) outboxes

is_before : (c : goal.After-put-2) → before c ≡ stored_in c.self.inside
is_before c =
    let w = c.self.inside in
    ap (λ x. with_parts (stored_in w) x c.deref_mut-2.result.now w.lines.lines w.carried.items w.wheel.armed) c.deref_mut.ensures.value
    ∙ ap (λ x. with_parts (stored_in w) w.shards.items x w.lines.lines w.carried.items w.wheel.armed) c.deref_mut-2.ensures.value

-- the item was dropped where it is for, and that is taken back
drops : (c : goal.After-put-2) → DropsTo (meaning_of (settings_in c.self.inside)) c.args.source c.in-Some.item (stored_in c.self.inside) (after c)
drops c =
    let w = c.self.inside in
    subst (λ m. DropsTo m c.args.source c.in-Some.item (stored_in w) (after c)) (ap meaning_to c.self.invariant.listens)
    (subst (λ s. DropsTo (meaning_to w.lines.rules) c.args.source c.in-Some.item s (after c)) (is_before c)
    (subst (λ s. DropsTo (meaning_to w.lines.rules) c.args.source c.in-Some.item (before c) s) (sym (is_written c)) (c.in_ok-undo.ensures.dropped (stored_in w))))

is_undone : (c : goal.After-put-2) → undone c.in_ok-undo.undo (after c) ≡ stored_in c.self.inside
is_undone c = ap (undone c.in_ok-undo.undo) (is_written c) ∙ c.in_ok-undo.ensures.undone (stored_in c.self.inside) ∙ is_before c

-- the settings are the same
same : (c : goal.After-put-2) → settings_with c.self.inside c.drop_at.new.lines.rules ≡ settings_in c.self.inside
same c = settings-same c.self.inside c.drop_at.new.lines.rules c.drop_at.ensures.rules

-- there is one more record
is_more : (c : goal.After-put-2) → c.put-2.new.self.records ≡ c.self.inside.undo.records ++ c.in_ok-undo.undo ∷ []
is_more c = ap (λ l. l.records) c.put-2.ensures ∙ ap (λ rs. rs ++ c.in_ok-undo.undo ∷ []) c.make_room.ensures.records

pub invariant_of-self-2 : goal.invariant_of-self-2
invariant_of-self-2 c =
    let w = c.self.inside in
    let rules = c.drop_at.ensures.rules in
    record {
      whole =
          drop-after (settings_in w) (settings_with w c.drop_at.new.lines.rules) w.log.entries c.put.new.self.entries (paused_in w) (stored_in w) (after c) w.undo.records c.put-2.new.self.records
          c.args.source c.in-Some.item c.in_ok-undo.undo c.self.invariant.whole (could c) (held c) (drops c) (is_undone c) c.in_ok-undo.ensures.unbooked (same c) (is_after c) (is_more c);
      listens = rules ∙ c.self.invariant.listens ∙ ap listening (sym (same c));
      pages = c.self.invariant.pages;
      paged = c.self.invariant.paged;
      shards = subst (λ (r : Hearing). IsShardCount r.peers.shards) (sym rules) c.self.invariant.shards;
      placed =
          subst (ArePlaced c.drop_at.new.wheel) (sym (is_more c))
          (placed-more c.drop_at.new.wheel w.undo.records c.in_ok-undo.undo (placed-still w.wheel c.drop_at.new.wheel w.undo.records c.drop_at.ensures.places c.self.invariant.placed) c.in_ok-undo.ensures.placed);
    }

pub returns-clause-ok : goal.returns-clause-ok
returns-clause-ok c =
    let w = c.self.inside in
    subst (λ run. Takes run (run_by (settings_with w c.drop_at.new.lines.rules) c.put.new.self.entries (pauses (after c).shards)) (steps.Drop c.args.source)) c.self.view_is
    (drop-takes (settings_in w) (settings_with w c.drop_at.new.lines.rules) w.log.entries c.put.new.self.entries (paused_in w) (pauses (after c).shards) (stored_in w) w.undo.records c.args.source c.in-Some.item
    c.self.invariant.whole (could c) (held c) (same c) (is_after c) (pauses-dropped (meaning_of (settings_in w)) c.args.source c.in-Some.item (stored_in w) (after c) (drops c)))
