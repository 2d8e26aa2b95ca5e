-- A desk tells a machine an event: the entry may follow, the parts are what the log then says, and are taken back.
use Rattle.std.proofs.Common.{◌≡◌, ◌+◌, ◌<◌, ℕ, List, [], ◌∷◌, ◌++◌, Bool, true, false, Option, Some, None, refl, sym, ◌∙◌, ap, arith, length, suc, zero}
use Rattle.std.specs.List.{slice_get}
use Rattle.std.specs.Prelude.{◌==◌, ◌&&◌, find, get_or, if◌then◌else◌, map, nat_lt, not, option_map, slice_set}
use Rattle.std.proofs.lemmas.Bool.Decides.{nat_tests}
use Rattle.std.proofs.lemmas.List.{length-map}
use Rattle.std.proofs.lemmas.Option.{slice_get-map, slice_get_read}
use Rattle.tab_step.specs.declared.machine.Event.{Event}
use Rattle.bench_item.specs.declared.entry.Entry.{Entry}
use Rattle.bench_item.specs.declared.key.Key.{Key}
use Rattle.bench_item.specs.declared.source.Source.TheVariants.{Clock, Desk, Shard}
use Rattle.bench_item.specs.declared.step.Step.TheVariants.{Told}
use Rattle.bench_item.specs.declared.step.StepFault.{StepFault}
use Rattle.bench_item.specs.declared.step.StepFault.TheVariants.{Full, Unknown}
use Rattle.bench_queue.specs.Outbox.{OutboxState, OutboxView, put_out, without_out}
use Rattle.bench_spec.specs.Items.{InOrder, told_item}
use Rattle.bench_spec.specs.Legal.{MayFollow}
use Rattle.bench_spec.specs.Refusal.{is_log_full, may_tell, refusal}
use Rattle.bench_spec.specs.Settings.{Settings}
use Rattle.bench_spec.proofs.BookLemmas.{entry_of}
use Rattle.bench_spec.proofs.PauseLemmas.{refusal-unpaused}
use Rattle.bench_undo.specs.declared.undo.Undo.{Undo}
use Rattle.bench_undo.specs.declared.undo.Undo.TheVariants as undo
use Rattle.bench_views.specs.Behind.{changed_at, put_out_at}
use Rattle.bench_views.specs.Carried.{carried_out}
use Rattle.bench_views.specs.Stored.{IsTied, Stored, source_at}
use Rattle.bench_views.proofs.Acting.{acts-changed, acts-none}
use Rattle.bench_views.proofs.Behind.{carried_in-none, carried_out-none, carried_out-put, carried_shard-by, lines-kept, tied-behind}
use Rattle.bench_views.proofs.LinePasts.{pasts_of-told}
use Rattle.bench_views.proofs.LineViews.{posts-go_on}
use Rattle.bench_views.proofs.Order.{Carries, Handles, order-after}
use Rattle.bench_views.proofs.Timers.{is_armed_so-kept, keeps-told}
use Rattle.bench_core.specs.Whole.{IsWhole}
use Rattle.bench_core.proofs.LegalLemmas.{legal_order}
use Rattle.bench_carry.proofs.PartLemmas.{changed-back, views-set}
use Rattle.bench_core.proofs.WholeLemmas.{not_some, whole-after}

-- the entry may follow
pub told-follows : (settings : Settings) (log : List Entry) (paused : List Bool) (s : Stored) (desk : ℕ) (key : Key) (event : Event) → InOrder settings log → IsTied settings log s → refusal settings log paused (Told desk key event) ≡ None → MayFollow settings log (entry_of (Told desk key event) None None)
told-follows settings log paused s desk key event order tied could = record {
  could = refusal-unpaused settings log paused (Told desk key event) could;
  parts = (refl, refl);
  order =
      order-after settings log (entry_of (Told desk key event) None None) order
      (posts-go_on settings s.lines log paused (entry_of (Told desk key event) None None) tied.lines could)
      (λ source. Carries.Rests refl refl) (λ shard. Handles.Idles refl);
}

-- places of desks
first_place : (desk : ℕ) → (0 == suc desk) ≡ false
first_place desk = grind (arith, nat_tests)

desk_place : (d desk : ℕ) → (suc d == suc desk) ≡ (desk == d)
desk_place d desk = grind (arith, nat_tests)

-- what the outboxes are with that entry
told_outbox : (desk : ℕ) (key : Key) (event : Event) (p : ℕ) (v : OutboxView) → (if p == suc desk then put_out v (told_item key event ∷ []) else v) ≡ carried_out (source_at p) (entry_of (Told desk key event) None None) v
told_outbox desk key event zero v =
    ap (λ b. if b then put_out v (told_item key event ∷ []) else v) (first_place desk)
    ∙ sym (carried_out-none Clock (entry_of (Told desk key event) None None) v refl refl refl)
told_outbox desk key event (suc d) v =
    ap (λ b. if b then put_out v (told_item key event ∷ []) else v) (desk_place d desk) ∙ by (desk == d) refl
  where
    by : (b : Bool) → (desk == d) ≡ b → (if b then put_out v (told_item key event ∷ []) else v) ≡ carried_out (Desk d) (entry_of (Told desk key event) None None) v
    by true is = sym (carried_out-put (Desk d) (entry_of (Told desk key event) None None) v (told_item key event ∷ []) (ap (λ c. if c then told_item key event ∷ [] else []) is) refl refl)
    by false is = sym (carried_out-none (Desk d) (entry_of (Told desk key event) None None) v (ap (λ c. if c then told_item key event ∷ [] else []) is) refl refl)

-- the parts are what the log then says
pub told-tied : (settings : Settings) (log : List Entry) (s : Stored) (desk : ℕ) (key : Key) (event : Event) → IsTied settings log s → IsTied settings (log ++ entry_of (Told desk key event) None None ∷ []) (put_out_at (suc desk) (told_item key event ∷ []) s)
told-tied settings log s desk key event tied = tied-behind settings log (Told desk key event) None s (put_out_at (suc desk) (told_item key event ∷ []) s) (λ shard. refl) tied (record {
  shard_by = λ k v. v;
  shards = acts-none s.shards;
  each_shard = λ k v is. sym (carried_shard-by settings.node e v v.inbox v.outbox (carried_in-none settings.node v.number e v.inbox refl) (carried_out-none (Shard v.number) e v.outbox refl refl refl));
  outbox_by = λ p v. if p == suc desk then put_out v (told_item key event ∷ []) else v;
  outboxes = acts-changed (λ k x. x) s.outboxes s.outboxes (suc desk) (λ v. put_out v (told_item key event ∷ [])) (acts-none s.outboxes);
  each_outbox = λ p v is. told_outbox desk key event p v;
  lines = lines-kept settings log e s (pasts_of-told log desk key event None None) (λ line. refl) (λ line. refl) tied;
  books = refl;
  timers = is_armed_so-kept s.timers log e (keeps-told desk key event None None) tied.timers;
})
  where
    e : Entry
    e = entry_of (Told desk key event) None None

-- so the world is whole behind it
pub told-whole : (settings : Settings) (log after : List Entry) (paused : List Bool) (s : Stored) (outs : List OutboxView) (undos more : List Undo) (desk : ℕ) (key : Key) (event : Event) (old : OutboxView) → IsWhole settings log s undos → refusal settings log paused (Told desk key event) ≡ None → after ≡ log ++ entry_of (Told desk key event) None None ∷ [] → outs ≡ changed_at (suc desk) (λ v. put_out v (told_item key event ∷ [])) s.outboxes → more ≡ undos ++ undo.Told desk ∷ [] → slice_get s.outboxes (suc desk) ≡ Some old → without_out (put_out old (told_item key event ∷ [])) 1 ≡ old → IsWhole settings after (record s { outboxes = outs }) more
told-whole settings log after paused s outs undos more desk key event old whole could is_after is_outs is_more there back =
    rw (is_after, is_outs, is_more)
    (whole-after settings log s (put_out_at (suc desk) (told_item key event ∷ []) s) undos (entry_of (Told desk key event) None None) (undo.Told desk) whole
    (told-follows settings log paused s desk key event (legal_order settings log whole.legal) whole.tied could)
    (told-tied settings log s desk key event whole.tied) tt
    (ap (λ outboxes. record s { outboxes = outboxes }) (changed-back (suc desk) (λ v. put_out v (told_item key event ∷ [])) (λ v. without_out v 1) s.outboxes old there back)))

-- a desk that tells is there
pub told_desk : (settings : Settings) (log : List Entry) (paused : List Bool) (desk : ℕ) (key : Key) (event : Event) → refusal settings log paused (Told desk key event) ≡ None → desk < settings.desks
told_desk settings log paused desk key event could = by (nat_lt desk settings.desks) refl
  where
    first : Bool → Option StepFault
    first b = option_map (λ (r : Bool × StepFault). r.1) (find (λ (r : Bool × StepFault). r.0) ((not (b && may_tell settings key event.kind), Unknown) ∷ (is_log_full log, Full) ∷ []))

    by : (b : Bool) → nat_lt desk settings.desks ≡ b → desk < settings.desks
    by true is = grind (arith, nat_tests, is)
    by false is = absurd (not_some Unknown (sym (ap first is) ∙ could))

-- the same with the outboxes as they are kept
pub told-sound : (settings : Settings) (log after : List Entry) (paused : List Bool) (s : Stored) (items : List OutboxState) (new old : OutboxState) (undos more : List Undo) (desk : ℕ) (key : Key) (event : Event) → IsWhole settings log s undos → s.outboxes ≡ map (λ o. o.view) items → refusal settings log paused (Told desk key event) ≡ None → after ≡ log ++ entry_of (Told desk key event) None None ∷ [] → more ≡ undos ++ undo.Told desk ∷ [] → old ≡ get_or items (desk + 1) old → new.view ≡ put_out old.view (told_item key event ∷ []) → without_out new.view 1 ≡ old.view → IsWhole settings after (record s { outboxes = map (λ o. o.view) (slice_set items (desk + 1) new) }) more
told-sound settings log after paused s items new old undos more desk key event whole kept could is_after is_more read put back =
    told-whole settings log after paused s (map (λ o. o.view) (slice_set items (desk + 1) new)) undos more desk key event old.view whole could is_after
    (ap (λ n. map (λ o. o.view) (slice_set items n new)) next ∙ views-set items (suc desk) old new (λ v. put_out v (told_item key event ∷ [])) there put ∙ ap (changed_at (suc desk) (λ v. put_out v (told_item key event ∷ []))) (sym kept))
    is_more
    (ap (λ outs. slice_get outs (suc desk)) kept ∙ slice_get-map (λ o. o.view) items (suc desk) ∙ ap (option_map (λ o. o.view)) there)
    (ap (λ v. without_out v 1) (sym put) ∙ back)
  where
    next : desk + 1 ≡ suc desk
    next = omega arith

    many : length items ≡ settings.desks + 1
    many = sym (length-map items (λ o. o.view)) ∙ ap length (sym kept) ∙ whole.tied.outbox_count

    within : suc desk < length items
    within = omega (arith, told_desk settings log paused desk key event could, many)

    there : slice_get items (suc desk) ≡ Some old
    there = slice_get_read items (length items) (suc desk) old refl within (read ∙ ap (λ n. get_or items n old) next)
