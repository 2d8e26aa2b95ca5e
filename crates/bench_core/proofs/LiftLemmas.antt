-- The oldest item of a source is lifted: the entry may follow, the parts are what the log then says, and are taken back.
use Rattle.std.proofs.Common.{◌≡◌, ℕ, suc, List, [], ◌∷◌, ◌++◌, Bool, true, Some, None, refl, sym, ◌∙◌, ap, subst, arith}
use Rattle.std.specs.Prelude.{slice_get}
use Rattle.bench_item.specs.declared.entry.Entry.{Entry}
use Rattle.bench_item.specs.declared.source.Source.{Source}
use Rattle.bench_item.specs.declared.source.Source.TheVariants.{Clock, Desk, Line, Shard}
use Rattle.bench_item.specs.declared.step.Step.TheVariants.{Lift}
use Rattle.bench_queue.specs.Outbox.{OutboxState, can_lift}
use Rattle.bench_spec.specs.Legal.{MayFollow}
use Rattle.bench_spec.specs.Refusal.{refusal}
use Rattle.bench_spec.specs.Settings.{Settings}
use Rattle.bench_spec.specs.Taken.{Takes}
use Rattle.bench_spec.proofs.BookLemmas.{entry_of}
use Rattle.bench_undo.specs.declared.undo.Undo.{Undo}
use Rattle.bench_views.specs.Behind.{lifted_from}
use Rattle.bench_views.specs.Looks.{next_of}
use Rattle.bench_views.specs.Stored.{IsTied, Stored}
use Rattle.bench_views.proofs.Lifting.{tied-lift}
use Rattle.bench_views.proofs.Looks.{desk_there, follows-lift, may_lift, next_of-log, outbox_there, shard_there}
use Rattle.bench_carry.specs.Seen.{CanBeLifted, views_of}
use Rattle.bench_carry.specs.Undone.{BooksNothing, undone}
use Rattle.bench_core.specs.Whole.{IsWhole}
use Rattle.bench_core.proofs.CarryLemmas.{kept_at, may_undo-unbooked, run-same, run_by}
use Rattle.bench_core.proofs.LegalLemmas.{legal_order}
use Rattle.bench_core.proofs.WholeLemmas.{whole-after}

-- an item waits
pub lift-next : (settings : Settings) (log : List Entry) (paused : List Bool) (s : Stored) (undos : List Undo) (source : Source)
    → (whole : IsWhole settings log s undos) → (could : refusal settings log paused (Lift source) ≡ None)
    → next_of source s ≡ Some (may_lift settings log paused source (legal_order settings log whole.legal) could).item
lift-next settings log paused s undos source whole could =
    let may = may_lift settings log paused source (legal_order settings log whole.legal) could in
    next_of-log settings log s source whole.tied may.there ∙ may.next

-- the outbox at a place can be lifted from
outbox_liftable : (settings : Settings) (log : List Entry) (s : Stored) (outs : List OutboxState) (place : ℕ) → s.outboxes ≡ views_of outs → (v : _)
    → slice_get s.outboxes place ≡ Some v → can_lift v ≡ true
    → (o : OutboxState) × (slice_get outs place ≡ Some o) × (can_lift o.view ≡ true)
outbox_liftable settings log s outs place kept v there can =
    let is = kept_at outs place v (ap (λ vs. slice_get vs place) (sym kept) ∙ there) in
    (is.o, is.there, ap can_lift is.view ∙ can)

-- and can be lifted
pub can_be_lifted : (settings : Settings) (log : List Entry) (paused : List Bool) (s : Stored) (outs : List OutboxState) (undos : List Undo) (source : Source)
    → IsWhole settings log s undos → s.outboxes ≡ views_of outs → refusal settings log paused (Lift source) ≡ None
    → CanBeLifted source s.shards outs
can_be_lifted settings log paused s outs undos (Line line) whole kept could = tt
can_be_lifted settings log paused s outs undos (Shard shard) whole kept could =
    let may = may_lift settings log paused (Shard shard) (legal_order settings log whole.legal) could in
    let is = shard_there settings log s shard whole.tied may.there in
    (is.v, is.there, ap can_lift is.outbox ∙ may.can)
can_be_lifted settings log paused s outs undos (Desk desk) whole kept could =
    let may = may_lift settings log paused (Desk desk) (legal_order settings log whole.legal) could in
    let is = outbox_there settings log s (suc desk) whole.tied (desk_there settings log desk may.there) in
    outbox_liftable settings log s outs (suc desk) kept is.v is.there (ap can_lift is.outbox ∙ may.can)
can_be_lifted settings log paused s outs undos Clock whole kept could =
    let may = may_lift settings log paused Clock (legal_order settings log whole.legal) could in
    let is = outbox_there settings log s 0 whole.tied (omega arith) in
    outbox_liftable settings log s outs 0 kept is.v is.there (ap can_lift is.outbox ∙ may.can)

-- the entry may follow
pub lift-follows : (settings : Settings) (log : List Entry) (paused : List Bool) (s : Stored) (undos : List Undo) (source : Source)
    → IsWhole settings log s undos → refusal settings log paused (Lift source) ≡ None
    → MayFollow settings log (entry_of (Lift source) (next_of source s) None)
lift-follows settings log paused s undos source whole could =
    let order = legal_order settings log whole.legal in
    let may = may_lift settings log paused source order could in
    subst (λ item. MayFollow settings log (entry_of (Lift source) item None)) (sym (lift-next settings log paused s undos source whole could))
    (follows-lift settings log paused s source may.item order whole.tied could may.next)

-- the parts are what the log then says
pub lift-tied : (settings : Settings) (log : List Entry) (paused : List Bool) (s : Stored) (undos : List Undo) (source : Source)
    → IsWhole settings log s undos → refusal settings log paused (Lift source) ≡ None
    → IsTied settings (log ++ entry_of (Lift source) (next_of source s) None ∷ []) (lifted_from source s)
lift-tied settings log paused s undos source whole could =
    let may = may_lift settings log paused source (legal_order settings log whole.legal) could in
    subst (λ item. IsTied settings (log ++ entry_of (Lift source) item None ∷ []) (lifted_from source s))
    (sym (lift-next settings log paused s undos source whole could)) (tied-lift settings log source may.item s whole.tied may.can)

-- so the world is whole behind it
pub lift-whole : (settings : Settings) (log : List Entry) (paused : List Bool) (s new : Stored) (undos : List Undo) (source : Source) (u : Undo)
    → IsWhole settings log s undos → refusal settings log paused (Lift source) ≡ None → new ≡ lifted_from source s → undone u new ≡ s → BooksNothing u
    → IsWhole settings (log ++ entry_of (Lift source) (next_of source s) None ∷ []) new (undos ++ u ∷ [])
lift-whole settings log paused s new undos source u whole could is back unbooked =
    whole-after settings log s new undos (entry_of (Lift source) (next_of source s) None) u whole
    (lift-follows settings log paused s undos source whole could)
    (subst (IsTied settings (log ++ entry_of (Lift source) (next_of source s) None ∷ [])) (sym is) (lift-tied settings log paused s undos source whole could))
    (may_undo-unbooked u new unbooked) back

pub lift-after : (settings others : Settings) (log after : List Entry) (paused : List Bool) (s new : Stored) (undos more : List Undo) (source : Source) (u : Undo)
    → IsWhole settings log s undos → refusal settings log paused (Lift source) ≡ None → new ≡ lifted_from source s → undone u new ≡ s → BooksNothing u
    → others ≡ settings → after ≡ log ++ entry_of (Lift source) (next_of source s) None ∷ [] → more ≡ undos ++ u ∷ [] → IsWhole others after new more
lift-after settings others log after paused s new undos more source u whole could is back unbooked same is_after is_more =
    rw (same, is_after, is_more) (lift-whole settings log paused s new undos source u whole could is back unbooked)

-- and the step was taken
pub lift-takes : (settings others : Settings) (log after : List Entry) (paused halted : List Bool) (s : Stored) (undos : List Undo) (source : Source)
    → IsWhole settings log s undos → refusal settings log paused (Lift source) ≡ None → others ≡ settings
    → after ≡ log ++ entry_of (Lift source) (next_of source s) None ∷ [] → halted ≡ paused
    → Takes (run_by settings log paused) (run_by others after halted) (Lift source)
lift-takes settings others log after paused halted s undos source whole could same is_after still = record {
  entry = entry_of (Lift source) (next_of source s) None;
  of_step = refl;
  could = could;
  follows = lift-follows settings log paused s undos source whole could;
  grown = run-same others settings after (log ++ entry_of (Lift source) (next_of source s) None ∷ []) halted paused same is_after still;
}
