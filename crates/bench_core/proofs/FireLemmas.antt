-- A timer fires: the entry may follow, the parts are what the log then says, and are taken back.
use Rattle.std.proofs.Common.{◌≡◌, ◌+◌, ◌<◌, ◌≤◌, ℕ, List, [], ◌∷◌, ◌++◌, Bool, true, false, Option, Some, None, refl, sym, ◌∙◌, ap, arith, length, suc, zero}
use Rattle.std.specs.FinMap as fin
use Rattle.std.specs.FinSet as set
use Rattle.std.specs.List.{slice_get}
use Rattle.std.specs.Option.{option_and_then, option_map_or}
use Rattle.std.specs.Prelude.{◌==◌, IsSome, IsTrue, flat_map, get_or, map, nat_lt, not, option_map, option_to_list, slice_set}
use Rattle.std.proofs.lemmas.Bool.{false≢true}
use Rattle.std.proofs.lemmas.Bool.Decides.{nat_tests}
use Rattle.std.proofs.lemmas.List.{length-map}
use Rattle.std.proofs.lemmas.Option.{slice_get-map, slice_get_read}
use Rattle.tick_wheel.specs.Timers.{ByOwner, Timers, with_timer}
use Rattle.tick_wheel.specs.declared.timer.Armed.{Armed}
use Rattle.tick_wheel.proofs.CallerLemmas.{with_timer-back}
use Rattle.bench_item.specs.Keys.{place_of, shard_of}
use Rattle.bench_item.specs.declared.entry.Entry.{Entry}
use Rattle.bench_item.specs.declared.item.Item.{Item}
use Rattle.bench_item.specs.declared.key.Key.{Key}
use Rattle.bench_item.specs.declared.key.Role.{Role}
use Rattle.bench_item.specs.declared.key.Role.TheVariants.{Client, Peer, Server}
use Rattle.bench_item.specs.declared.step.Step.TheVariants.{Fired}
use Rattle.bench_queue.specs.Outbox.{OutboxState, OutboxView, put_out, without_out}
use Rattle.bench_shard.specs.Names.{key_in, key_octets, octet_role, role_octet}
use Rattle.bench_shard.specs.View.{ShardView}
use Rattle.bench_spec.specs.Items.{InOrder, firing}
use Rattle.bench_spec.specs.Legal.{MayFollow}
use Rattle.bench_spec.specs.Machines.{directory, key_numbered}
use Rattle.bench_spec.specs.Refusal.{fired_reasons, refusal}
use Rattle.bench_spec.specs.Settings.{Settings}
use Rattle.bench_spec.proofs.BookLemmas.{entry_of}
use Rattle.bench_spec.proofs.PauseLemmas.{refusal-unpaused}
use Rattle.bench_undo.specs.declared.undo.Arrival.{Arrival}
use Rattle.bench_undo.specs.declared.undo.Arrival.TheVariants as arrivals
use Rattle.bench_undo.specs.declared.undo.Undo.{Undo}
use Rattle.bench_undo.specs.declared.undo.Undo.TheVariants as undo
use Rattle.bench_views.specs.Behind.{changed_at, put_out_at}
use Rattle.bench_views.specs.Stored.{IsTied, Stored}
use Rattle.bench_views.specs.Timers.{IsArmedSo, generation_of}
use Rattle.bench_views.proofs.Distinct.{Each-append, Each-weaker}
use Rattle.bench_views.proofs.LineSteps.{tied-fired}
use Rattle.bench_views.proofs.LineViews.{no_reason, posts-go_on}
use Rattle.bench_views.proofs.Order.{Carries, Handles, order-after}
use Rattle.bench_carry.specs.Placed.{ArePlaced, IsPlaced}
use Rattle.bench_carry.proofs.PartLemmas.{changed-back, views-set}
use Rattle.bench_core.specs.Firings.{fired, numbered}
use Rattle.bench_core.specs.Whole.{IsWhole}
use Rattle.bench_core.proofs.LegalLemmas.{legal_order}
use Rattle.bench_core.proofs.WholeLemmas.{whole-after}

past-none : {X : Type 0} (xs : List X) (k : ℕ) → slice_get xs k ≡ None → length xs ≤ k
past-none [] k e = omega arith
past-none (x ∷ xs) zero e = absurd cc
past-none (x ∷ xs) (suc k) e = omega (arith, past-none xs k e)

-- a key comes back out of its octets
role-back : (role : Role) → octet_role (role_octet role) ≡ role
role-back Peer = refl
role-back Client = refl
role-back Server = refl

pub key-back : (key : Key) → key_in (key_octets key) ≡ key
key-back key = ap (λ role. record { role = role; name = key.name }) (role-back key.role)

keys-back : (key : Option Key) → option_map key_in (option_map key_octets key) ≡ key
keys-back None = refl
keys-back (Some key) = ap Some (key-back key)

-- the machine of a number in its shard
numbered-shard : (settings : Settings) (log : List Entry) (s : Stored) (machine : ℕ) (v : ShardView) → IsTied settings log s → slice_get s.shards (shard_of machine) ≡ Some v
    → option_map key_in (slice_get v.names (place_of machine)) ≡ key_numbered settings.node log machine
numbered-shard settings log s machine v tied at =
    let is = tied.shards (shard_of machine) v at in
    ap (λ (ns : List (List ℕ)). option_map key_in (slice_get ns (place_of machine))) is.1.names
    ∙ ap (option_map key_in) (slice_get-map key_octets (directory settings.node v.number log) (place_of machine))
    ∙ keys-back (slice_get (directory settings.node v.number log) (place_of machine))
    ∙ ap (λ (k : ℕ). slice_get (directory settings.node k log) (place_of machine)) is.0

-- the machine of a number is that of the log, where its shard is there
pub numbered-log : (settings : Settings) (log : List Entry) (s : Stored) (machine : ℕ) → IsTied settings log s → shard_of machine < settings.node.shards
    → numbered s.shards machine ≡ key_numbered settings.node log machine
numbered-log settings log s machine tied there = by (slice_get s.shards (shard_of machine)) refl
  where
    by : (o : Option ShardView) → slice_get s.shards (shard_of machine) ≡ o
        → option_and_then (λ (v : ShardView). option_map key_in (slice_get v.names (place_of machine))) o ≡ key_numbered settings.node log machine
    by None e = absurd (omega (arith, past-none s.shards (shard_of machine) e, tied.shard_count, there))
    by (Some v) e = numbered-shard settings log s machine v tied e

-- of a firing that is not refused the shard is there
fired_shard : (settings : Settings) (log : List Entry) (paused : List Bool) (machine generation : ℕ) → refusal settings log paused (Fired machine generation) ≡ None → shard_of machine < settings.node.shards
fired_shard settings log paused machine generation could = by (nat_lt (shard_of machine) settings.node.shards) refl
  where
    by : (b : Bool) → nat_lt (shard_of machine) settings.node.shards ≡ b → shard_of machine < settings.node.shards
    by true is = grind (arith, nat_tests, is)
    by false is = absurd (false≢true (sym (no_reason (fired_reasons settings log machine generation) could).0 ∙ ap not is))

-- and the timer is armed
pub fired_armed : (settings : Settings) (log : List Entry) (paused : List Bool) (machine generation : ℕ) (timers : ByOwner) (timer : Option Armed) → refusal settings log paused (Fired machine generation) ≡ None → IsArmedSo timers log → timer ≡ fin.get timers machine → IsSome timer
fired_armed settings log paused machine generation timers timer could tied was = by timer refl
  where
    by : (o : Option Armed) → timer ≡ o → IsSome o
    by None e =
        absurd (false≢true (sym (no_reason (fired_reasons settings log machine generation) could).1.0
        ∙ ap (λ (g : Option ℕ). not (option_map_or (λ (n : ℕ). n == generation) g false)) (sym (tied machine) ∙ ap generation_of (sym was ∙ e))))
    by (Some a) e = refl

-- the entry may follow
pub fired-follows : (settings : Settings) (log : List Entry) (paused : List Bool) (s : Stored) (machine generation : ℕ) (item : Option Item) → InOrder settings log → IsTied settings log s → refusal settings log paused (Fired machine generation) ≡ None → option_to_list item ≡ fired settings.node s.shards machine generation → MayFollow settings log (entry_of (Fired machine generation) item None)
fired-follows settings log paused s machine generation item order tied could posts = record {
  could = refusal-unpaused settings log paused (Fired machine generation) could;
  parts = (posts ∙ ap (λ (key : Option Key). flat_map (firing settings.node generation) (option_to_list key)) (numbered-log settings log s machine tied (fired_shard settings log paused machine generation could)), refl);
  order =
      order-after settings log (entry_of (Fired machine generation) item None) order
      (posts-go_on settings s.lines log paused (entry_of (Fired machine generation) item None) tied.lines could)
      (λ source. Carries.Rests refl refl) (λ shard. Handles.Idles refl);
}

-- the world is whole behind it
pub fired-whole : (settings : Settings) (log after : List Entry) (paused : List Bool) (s : Stored) (outs : List OutboxView) (timers : ByOwner) (undos more : List Undo) (machine generation : ℕ) (item : Option Item) (timer : Option Armed) (posted : ℕ) (old : OutboxView) → IsWhole settings log s undos → refusal settings log paused (Fired machine generation) ≡ None → option_to_list item ≡ fired settings.node s.shards machine generation → after ≡ log ++ entry_of (Fired machine generation) item None ∷ [] → outs ≡ changed_at 0 (λ v. put_out v (option_to_list item)) s.outboxes → timers ≡ with_timer s.timers machine None → more ≡ undos ++ undo.Fired machine timer posted ∷ [] → timer ≡ fin.get s.timers machine → slice_get s.outboxes 0 ≡ Some old → without_out (put_out old (option_to_list item)) posted ≡ old → IsWhole settings after (record s { outboxes = outs; timers = timers }) more
fired-whole settings log after paused s outs timers undos more machine generation item timer posted old whole could posts is_after is_outs is_timers is_more was there back =
    rw (is_after, is_outs, is_timers, is_more)
    (whole-after settings log s (record (put_out_at 0 (option_to_list item) s) { timers = with_timer s.timers machine None }) undos (entry_of (Fired machine generation) item None) (undo.Fired machine timer posted) whole
    (fired-follows settings log paused s machine generation item (legal_order settings log whole.legal) whole.tied could posts)
    (tied-fired settings log machine generation item s whole.tied) tt
    (ap (λ (outs : List OutboxView). record s { outboxes = outs; timers = with_timer (with_timer s.timers machine None) machine timer }) (changed-back 0 (λ v. put_out v (option_to_list item)) (λ v. without_out v posted) s.outboxes old there back)
    ∙ ap (λ (timers : ByOwner). record s { timers = timers }) (ap (with_timer (with_timer s.timers machine None) machine) was ∙ with_timer-back s.timers machine None)))

-- the same with the outboxes as they are kept
pub fired-sound : (settings : Settings) (log after : List Entry) (paused : List Bool) (s : Stored) (items : List OutboxState) (new old : OutboxState) (timers : ByOwner) (undos more : List Undo) (machine generation : ℕ) (item : Option Item) (timer : Option Armed) (posted : ℕ) → IsWhole settings log s undos → s.outboxes ≡ map (λ o. o.view) items → refusal settings log paused (Fired machine generation) ≡ None → option_to_list item ≡ fired settings.node s.shards machine generation → after ≡ log ++ entry_of (Fired machine generation) item None ∷ [] → timers ≡ with_timer s.timers machine None → more ≡ undos ++ undo.Fired machine timer posted ∷ [] → timer ≡ fin.get s.timers machine → old ≡ get_or items 0 old → new.view ≡ put_out old.view (option_to_list item) → without_out new.view posted ≡ old.view → IsWhole settings after (record s { outboxes = map (λ o. o.view) (slice_set items 0 new); timers = timers }) more
fired-sound settings log after paused s items new old timers undos more machine generation item timer posted whole kept could posts is_after is_timers is_more was read put back =
    fired-whole settings log after paused s (map (λ o. o.view) (slice_set items 0 new)) timers undos more machine generation item timer posted old.view whole could posts is_after
    (views-set items 0 old new (λ v. put_out v (option_to_list item)) there put ∙ ap (changed_at 0 (λ v. put_out v (option_to_list item))) (sym kept))
    is_timers is_more was
    (ap (λ outs. slice_get outs 0) kept ∙ slice_get-map (λ o. o.view) items 0 ∙ ap (option_map (λ o. o.view)) there)
    (ap (λ v. without_out v posted) (sym put) ∙ back)
  where
    many : length items ≡ settings.desks + 1
    many = sym (length-map items (λ o. o.view)) ∙ ap length (sym kept) ∙ whole.tied.outbox_count

    within : 0 < length items
    within = omega (arith, many)

    there : slice_get items 0 ≡ Some old
    there = slice_get_read items (length items) 0 old refl within read

-- a wheel with the same places has one for each timer that is set again
placed-kept : (wheel other : Timers) → other.places ≡ wheel.places → (u : Undo) → IsPlaced wheel u → IsPlaced other u
placed-kept wheel other same undo.Opened is = tt
placed-kept wheel other same (undo.Lines change) is = tt
placed-kept wheel other same (undo.Told desk) is = tt
placed-kept wheel other same (undo.Fired machine old posted) is = rw same is
placed-kept wheel other same (undo.Lifted source) is = tt
placed-kept wheel other same (undo.Dropped source arrival) is = by arrival is
  where
    by : (a : Arrival) → IsPlaced wheel (undo.Dropped source a) → IsPlaced other (undo.Dropped source a)
    by (arrivals.Shard shard) is = tt
    by (arrivals.Lines change) is = tt
    by arrivals.Opened is = tt
    by (arrivals.Timer machine old) is = rw same is
placed-kept wheel other same (undo.Worked shard change page booked) is = tt

-- and so one for that of a firing
pub fired-placed : (wheel other : Timers) (undos more : List Undo) (machine : ℕ) (timer : Option Armed) (posted : ℕ) → other.places ≡ wheel.places → more ≡ undos ++ undo.Fired machine timer posted ∷ [] → IsTrue (set.contains wheel.places machine) → ArePlaced wheel undos → ArePlaced other more
fired-placed wheel other undos more machine timer posted same is_more here placed =
    rw is_more
    (Each-append (IsPlaced other) undos (undo.Fired machine timer posted ∷ []) (Each-weaker (IsPlaced wheel) (IsPlaced other) (placed-kept wheel other same) undos placed)
    (placed-kept wheel other same (undo.Fired machine timer posted) here, tt))
