-- The timers and what they fired are what the entries of their part say, with one more entry.
use Rattle.std.proofs.Common.{◌≡◌, ◌∙◌, ◌+◌, ℕ, nat_eq, nat_le, zero, suc, arith, Bool, true, false, cond, not, List, [], ◌∷◌, ◌++◌, Option, Some, None, is_some, length, refl, ap, subst, sym, true≢false, eq-eqb, eqb-true, leb-true}
use Rattle.std.specs.Prelude.{◌==◌, max, IsFalse, IsTrue, option_to_list, if◌then◌else◌, nat_lt, slice_get}
use Rattle.std.specs.FinMap as fin
use Rattle.std.specs.Ordering.{nat_cmp}
use Rattle.std.specs.Map.{lookup}
use Rattle.std.proofs.lemmas.Bool.Decides.{nat_tests}
use Rattle.std.proofs.lemmas.Grind.{flat_map-append}
use Rattle.std.proofs.lemmas.List.{append-nil, length-append}
use Rattle.indexmap.specs.IndexMap.{insert_entry}
use Rattle.tick_wheel.specs.Places.{Place}
use Rattle.tick_wheel.specs.Timers.{AreFired, ByOwner, Timers, after_advance, after_arm, at_start, is_due, moment_after, with_timer, with_timer_of}
use Rattle.tick_wheel.specs.declared.timer.Armed.{Armed}
use Rattle.tick_wheel.specs.declared.timer.Firing.{Firing}
use Rattle.tab_law.specs.Books.{Laws}
use Rattle.tick_wheel.proofs.CallerLemmas.{get-with_timer}
use Rattle.tick_wheel.proofs.PlaceLemmas.{same_armed}
use Rattle.bench_item.specs.declared.entry.Entry.{Entry}
use Rattle.bench_item.specs.declared.item.Item.{Item}
use Rattle.bench_item.specs.declared.item.Item.TheVariants.{Arm, Disarm}
use Rattle.bench_item.specs.declared.key.Key.{Key}
use Rattle.bench_item.specs.declared.source.Source.{Source}
use Rattle.bench_item.specs.declared.source.Source.TheVariants.{Clock}
use Rattle.bench_item.specs.declared.step.Step.TheVariants.{Drop, Lift}
use Rattle.bench_queue.specs.Outbox.{OutboxView, dropped_one, lifted_one, next_out, nothing_out, put_out}
use Rattle.bench_item.specs.Keys.{Configured}
use Rattle.bench_spec.specs.Items.{is_firing, lifted}
use Rattle.bench_spec.specs.Merged.{Stamped}
use Rattle.bench_views.specs.Timers.{IsArmedSo}
use Rattle.bench_views.proofs.Order.{lifted-snoc}
use Rattle.bench_views.proofs.Timers.{is_armed_so-arm, is_armed_so-disarm, is_armed_so-fired, is_armed_so-kept, is_armed_so-start, keeps-lifted}
use Rattle.live_parts.specs.Clocks.{AreKnown, AreSo, ClockView, IsFired, Known, clock_view, fired_by, fired_item, passed, places_of, with_arm, with_disarm, with_new_timer, with_timer_at}
use Rattle.live_parts.specs.Entries.{carried_entry, fired_entry}
use Rattle.live_parts.specs.Stamps.{StampedView, added}

-- what fired, with one more entry
fired-snoc : (log : List Entry) (e : Entry) → fired_by (log ++ e ∷ []) ≡ fired_by log ++ (if is_firing e.step then option_to_list e.item else [])
fired-snoc log e =
    flat_map-append (λ x. if is_firing x.step then option_to_list x.item else []) log (e ∷ [])
    ∙ ap (λ xs. fired_by log ++ xs) (append-nil (if is_firing e.step then option_to_list e.item else []))

-- an entry that fires nothing and lifts nothing from the clock
still-fired : (log : List Entry) (source : Source) (item : Item) → fired_by (log ++ carried_entry (Drop source) item ∷ []) ≡ fired_by log
still-fired log source item = fired-snoc log (carried_entry (Drop source) item) ∙ append-nil (fired_by log)

still-lifted : (log : List Entry) (source : Source) (item : Item) → lifted (log ++ carried_entry (Drop source) item ∷ []) Clock ≡ lifted log Clock
still-lifted log source item = lifted-snoc log (carried_entry (Drop source) item) Clock ∙ append-nil (lifted log Clock)

-- a machine that is not found, and is not behind the first either
none-first : {X : Type 0} (b : Bool) (x : X) (rest : Option X) → cond b (Some x) rest ≡ None → (b ≡ false) × (rest ≡ None)
none-first true x rest none = absurd (true≢false (ap is_some none))
none-first false x rest none = (refl, none)

-- one that is not there once another was put in was not there before, and is not that
none-put : {X : Type 0} (keys : List (ℕ × X)) (machine q : ℕ) (x : X) → lookup (nat_eq q) (insert_entry nat_eq keys machine x) ≡ None
    → (nat_eq q machine ≡ false) × (lookup (nat_eq q) keys ≡ None)
none-put [] machine q x none = ((none-first (nat_eq q machine) x None none).0, refl)
none-put (e ∷ es) machine q x none = by (nat_eq machine e.0) refl (none-put es machine q x) none
  where
    by : (b : Bool) → nat_eq machine e.0 ≡ b
        → (lookup (nat_eq q) (insert_entry nat_eq es machine x) ≡ None → (nat_eq q machine ≡ false) × (lookup (nat_eq q) es ≡ None))
        → lookup (nat_eq q) (cond b ((e.0, x) ∷ es) (e ∷ insert_entry nat_eq es machine x)) ≡ None
        → (nat_eq q machine ≡ false) × (cond (nat_eq q e.0) (Some e.1) (lookup (nat_eq q) es) ≡ None)
    by true same again h =
        let here = none-first (nat_eq q e.0) x (lookup (nat_eq q) es) h in (
          ap (nat_eq q) (eqb-true machine e.0 same) ∙ here.0,
          ap (λ b. cond b (Some e.1) (lookup (nat_eq q) es)) here.0 ∙ here.1,
        )
    by false apart again h =
        let here = none-first (nat_eq q e.0) e.1 (lookup (nat_eq q) (insert_entry nat_eq es machine x)) h in
        let rest = again here.1 in (
          rest.0,
          ap (λ b. cond b (Some e.1) (lookup (nat_eq q) es)) here.0 ∙ rest.1,
        )

none-either : {X : Type 0} (b : Bool) → ◌≡◌ {A = Option X} (cond b None None) None
none-either true = refl
none-either false = refl

-- a timer is armed, or is armed no longer
known-armed : (armed : ByOwner) (keys : Known) (machine : ℕ) (timer : Armed) (key : Option Key) → AreKnown armed keys
    → AreKnown (with_timer armed machine (Some timer)) (insert_entry nat_eq keys machine key)
known-armed armed keys machine timer key known q none =
    let at = none-put keys machine q key none in
    get-with_timer armed machine (Some timer) q ∙ ap (λ b. cond b (Some timer) (fin.get armed q)) at.0 ∙ known q at.1

known-left : (armed : ByOwner) (keys : Known) (machine : ℕ) → AreKnown armed keys → AreKnown (with_timer armed machine None) keys
known-left armed keys machine known q none =
    get-with_timer armed machine None q ∙ ap (λ o. cond (nat_eq q machine) None o) (known q none) ∙ none-either (nat_eq q machine)

-- no timer was armed yet
pub so-none : AreSo at_start [] nothing_out []
so-none = record {
  armed = is_armed_so-start;
  posts = refl;
  lifted_are = refl;
  out = refl;
  known = λ machine none. fin.get-empty nat_cmp machine;
}

-- a timer is armed,
pub so-armed : (wheel : Timers) (keys : Known) (outbox : OutboxView) (log : List Entry) (source : Source) (machine generation ticks : ℕ)
    (key : Option Key)
    → AreSo wheel keys outbox log
    → AreSo (after_arm wheel machine generation ticks) (insert_entry nat_eq keys machine key) outbox
    (log ++ carried_entry (Drop source) (Arm machine generation ticks) ∷ [])
so-armed wheel keys outbox log source machine generation ticks key so = record {
  armed = is_armed_so-arm wheel log source machine generation ticks None so.armed;
  posts = so.posts ∙ sym (still-fired log source (Arm machine generation ticks));
  lifted_are = so.lifted_are ∙ ap length (sym (still-lifted log source (Arm machine generation ticks)));
  out = so.out;
  known =
      known-armed wheel.armed keys machine (record { generation = generation; due = moment_after wheel.moment ticks }) key so.known;
}

-- disarmed,
pub so-disarmed : (wheel : Timers) (keys : Known) (outbox : OutboxView) (log : List Entry) (source : Source) (machine : ℕ)
    → AreSo wheel keys outbox log
    → AreSo (with_timer_of wheel machine None) keys outbox (log ++ carried_entry (Drop source) (Disarm machine) ∷ [])
so-disarmed wheel keys outbox log source machine so = record {
  armed = is_armed_so-disarm wheel log source machine None so.armed;
  posts = so.posts ∙ sym (still-fired log source (Disarm machine));
  lifted_are = so.lifted_are ∙ ap length (sym (still-lifted log source (Disarm machine)));
  out = so.out;
  known = known-left wheel.armed keys machine so.known;
}

-- and fires.
pub so-fired : (wheel : Timers) (keys : Known) (outbox : OutboxView) (log : List Entry) (machine generation : ℕ) (item : Option Item)
    → AreSo wheel keys outbox log
    → AreSo (with_timer_of wheel machine None) keys (put_out outbox (option_to_list item)) (log ++ fired_entry machine generation item ∷ [])
so-fired wheel keys outbox log machine generation item so = record {
  armed = is_armed_so-fired wheel log machine generation item None so.armed;
  posts = ap (λ xs. xs ++ option_to_list item) so.posts ∙ sym (fired-snoc log (fired_entry machine generation item));
  lifted_are = so.lifted_are ∙ ap length (sym (lifted-snoc log (fired_entry machine generation item) Clock ∙ append-nil (lifted log Clock)));
  out = so.out;
  known = known-left wheel.armed keys machine so.known;
}

-- what waits can be lifted, and is then out of the hand
abbrev out_of : List Item → ℕ → ℕ → OutboxView
out_of posts lifted dropped = record { posts = posts; lifted = lifted; dropped = dropped }

first_place : (m : ℕ) → nat_lt 0 (suc m) ≡ true
first_place m = grind (arith, nat_tests)

next_place : (n m : ℕ) → nat_lt n m ≡ true → nat_lt (suc n) (suc m) ≡ true
next_place n m is = grind (arith, nat_tests, is)

itself : (n : ℕ) → (n == n) ≡ true
itself n = grind (arith, nat_tests)

less : (n : ℕ) → nat_lt n (n + 1) ≡ true
less n = grind (arith, nat_tests)

within : {X : Type 0} (xs : List X) (n : ℕ) (x : X) → slice_get xs n ≡ Some x → nat_lt n (length xs) ≡ true
within [] n x e = cc
within (y ∷ xs) zero x e = first_place (length xs)
within (y ∷ xs) (suc n) x e = next_place n (length xs) (within xs n x e)

taken-out : (posts : List Item) (n : ℕ) (item : Item) → slice_get posts n ≡ Some item
    → dropped_one (lifted_one (out_of posts n n)) ≡ out_of posts (n + 1) (n + 1)
taken-out posts n item next = rw (within posts n item next, itself n, less n) refl

-- An item is lifted.
pub so-taken : (wheel : Timers) (keys : Known) (outbox : OutboxView) (log : List Entry) (item : Item) → AreSo wheel keys outbox log
    → next_out outbox ≡ Some item
    → AreSo wheel keys (dropped_one (lifted_one outbox)) (log ++ carried_entry (Lift Clock) item ∷ [])
so-taken wheel keys outbox log item so next =
    let shape : outbox ≡ out_of outbox.posts outbox.lifted outbox.lifted = ap (out_of outbox.posts outbox.lifted) so.out in
    let out : dropped_one (lifted_one outbox) ≡ out_of outbox.posts (outbox.lifted + 1) (outbox.lifted + 1) =
    ap (λ o. dropped_one (lifted_one o)) shape ∙ taken-out outbox.posts outbox.lifted item next in
    rw out (record {
      armed = is_armed_so-kept wheel.armed log (carried_entry (Lift Clock) item) (keeps-lifted Clock (Some item) None) so.armed;
      posts = so.posts ∙ sym (fired-snoc log (carried_entry (Lift Clock) item) ∙ append-nil (fired_by log));
      lifted_are =
          ap (λ n. n + 1) so.lifted_are
          ∙ sym (ap length (lifted-snoc log (carried_entry (Lift Clock) item) Clock) ∙ length-append (lifted log Clock) (item ∷ []));
      out = refl;
      known = so.known;
    })

-- where nothing is due, time passes and no timer changes
abbrev firing_from : ℕ → Armed → Firing
firing_from owner timer = record { due = timer.due; owner = owner; generation = timer.generation }

none-due : (armed : ByOwner) (now : ℕ) → AreFired armed now []
    → fin.retain_keys armed (λ q. not (is_due now (fin.get armed q))) ≡ armed
none-due armed now none =
    let stays : ℕ → Bool = λ q. not (is_due now (fin.get armed q)) in
    same_armed (fin.retain_keys armed stays) armed
    (λ q. fin.get-retain_keys armed stays q (λ x tied. ap stays (sym (fin.nat_cmp-IsAntisymmetric q x tied))) ∙ by q (fin.get armed q) refl)
  where
    at : (q : ℕ) (t : Armed) → fin.get armed q ≡ Some t → (b : Bool) → nat_le t.due now ≡ b → cond (not b) (Some t) None ≡ Some t
    at q t is true due = let there = (none.each (firing_from q t)).1 (is, leb-true t.due now due) in absurd (omega (arith, there.1))
    at q t is false due = refl

    by : (q : ℕ) (o : Option Armed) → fin.get armed q ≡ o → cond (not (is_due now o)) o None ≡ o
    by q None is = refl
    by q (Some t) is = at q t is (nat_le t.due now) refl

pub so-passed : (wheel : Timers) (keys : Known) (outbox : OutboxView) (log : List Entry) (now : ℕ) → AreFired wheel.armed now []
    → AreSo wheel keys outbox log → AreSo (after_advance wheel now) keys outbox log
so-passed wheel keys outbox log now none so =
    let same = none-due wheel.armed now none in record {
      armed = subst (λ armed. IsArmedSo armed log) (sym same) so.armed;
      posts = so.posts;
      lifted_are = so.lifted_are;
      out = so.out;
      known = subst (λ armed. AreKnown armed keys) (sym same) so.known;
    }

-- the same of a part whose timers, keys, outbox and log came to be these
pub arm-put : (wheel armed : Timers) (keys kept : Known) (outbox out : OutboxView) (log logged : List Entry) (source : Source)
    (machine generation ticks : ℕ) (key : Option Key)
    → armed ≡ after_arm wheel machine generation ticks → kept ≡ insert_entry nat_eq keys machine key → out ≡ outbox
    → logged ≡ log ++ carried_entry (Drop source) (Arm machine generation ticks) ∷ [] → AreSo wheel keys outbox log
    → AreSo armed kept out logged
arm-put wheel armed keys kept outbox out log logged source machine generation ticks key timers ks same is so =
    rw (timers, ks, same, is) (so-armed wheel keys outbox log source machine generation ticks key so)

pub disarm-put : (wheel left : Timers) (keys : Known) (outbox : OutboxView) (log logged : List Entry) (source : Source) (machine : ℕ)
    → left ≡ with_timer_of wheel machine None → logged ≡ log ++ carried_entry (Drop source) (Disarm machine) ∷ []
    → AreSo wheel keys outbox log → AreSo left keys outbox logged
disarm-put wheel left keys outbox log logged source machine timers is so =
    rw (timers, is) (so-disarmed wheel keys outbox log source machine so)

pub fire-put : (wheel left : Timers) (keys : Known) (outbox out : OutboxView) (log logged : List Entry) (machine generation : ℕ)
    (item : Option Item)
    → left ≡ with_timer_of wheel machine None → out ≡ put_out outbox (option_to_list item)
    → logged ≡ log ++ fired_entry machine generation item ∷ [] → AreSo wheel keys outbox log → AreSo left keys out logged
fire-put wheel left keys outbox out log logged machine generation item timers more is so =
    rw (timers, more, is) (so-fired wheel keys outbox log machine generation item so)

pub lift-put : (wheel : Timers) (keys : Known) (outbox out : OutboxView) (log logged : List Entry) (item : Item)
    → out ≡ dropped_one (lifted_one outbox) → logged ≡ log ++ carried_entry (Lift Clock) item ∷ [] → next_out outbox ≡ Some item
    → AreSo wheel keys outbox log → AreSo wheel keys out logged
lift-put wheel keys outbox out log logged item less is next so = rw (less, is) (so-taken wheel keys outbox log item so next)

pub pass-put : (wheel after : Timers) (keys : Known) (outbox : OutboxView) (log : List Entry) (now : ℕ) → after ≡ after_advance wheel now
    → AreFired wheel.armed now [] → AreSo wheel keys outbox log → AreSo after keys outbox log
pass-put wheel after keys outbox log now is none so = rw is (so-passed wheel keys outbox log now none so)

-- what a contract sees of the timers, where these came to be so: those of a machine changed,
places-changed : (armed : ByOwner) (keys : Known) (machine : ℕ) (timer : Option Armed)
    → places_of (with_timer armed machine timer) keys ≡ with_timer_at (places_of armed keys) machine timer
places-changed armed [] machine timer = refl
places-changed armed (e ∷ es) machine timer =
    ap (λ t. (e.0, t) ∷ places_of (with_timer armed machine timer) es) (get-with_timer armed machine timer e.0)
    ∙ ap (λ (ps : List Place). (e.0, cond (nat_eq e.0 machine) timer (fin.get armed e.0)) ∷ ps) (places-changed armed es machine timer)

same-self : (n : ℕ) → nat_eq n n ≡ true
same-self n = eq-eqb n n refl

-- or a machine got one
places-new : (armed : ByOwner) (keys : Known) (machine : ℕ) (timer : Armed) (key : Option Key)
    → places_of (with_timer armed machine (Some timer)) (insert_entry nat_eq keys machine key)
    ≡ with_new_timer (places_of armed keys) machine timer
places-new armed [] machine timer key =
    ap (λ t. (machine, t) ∷ []) (get-with_timer armed machine (Some timer) machine)
    ∙ ap (λ b. (machine, cond b (Some timer) (fin.get armed machine)) ∷ []) (same-self machine)
    ∙ sym (ap (λ b. (machine, cond b (Some timer) None) ∷ []) (same-self machine))
places-new armed (e ∷ es) machine timer key = by (nat_eq machine e.0) refl (places-new armed es machine timer key)
  where
    rest : List Place
    rest = with_timer_at (places_of armed es) machine (Some timer)

    here : (o : Option Armed) → e.0 ≡ machine → cond (nat_eq e.0 machine) (Some timer) o ≡ Some timer
    here o same = ap (λ b. cond b (Some timer) o) (eq-eqb e.0 machine same)

    by : (b : Bool) → nat_eq machine e.0 ≡ b
        → places_of (with_timer armed machine (Some timer)) (insert_entry nat_eq es machine key) ≡ with_new_timer (places_of armed es) machine timer
        → places_of (with_timer armed machine (Some timer)) (cond b ((e.0, key) ∷ es) (e ∷ insert_entry nat_eq es machine key))
        ≡ with_timer_at (cond b ((e.0, None) ∷ places_of armed es) ((e.0, fin.get armed e.0) ∷ insert_entry nat_eq (places_of armed es) machine None)) machine (Some timer)
    by true is again =
        let same : e.0 ≡ machine = sym (eqb-true machine e.0 is) in
        ap (λ t. (e.0, t) ∷ places_of (with_timer armed machine (Some timer)) es) (get-with_timer armed machine (Some timer) e.0 ∙ here (fin.get armed e.0) same)
        ∙ ap (λ (ps : List Place). (e.0, Some timer) ∷ ps) (places-changed armed es machine (Some timer))
        ∙ sym (ap (λ t. (e.0, t) ∷ rest) (here None same))
    by false is again =
        ap (λ t. (e.0, t) ∷ places_of (with_timer armed machine (Some timer)) (insert_entry nat_eq es machine key)) (get-with_timer armed machine (Some timer) e.0)
        ∙ ap (λ (ps : List Place). (e.0, cond (nat_eq e.0 machine) (Some timer) (fin.get armed e.0)) ∷ ps) again

pub arm-view : (laws : Laws) (wheel armed : Timers) (keys kept : Known) (outbox out : OutboxView) (entries added : List Stamped)
    (source : Source) (machine generation ticks : ℕ) (key : Option Key) (stamp : ℕ) (v : ClockView)
    → clock_view laws wheel keys outbox entries ≡ v → armed ≡ after_arm wheel machine generation ticks
    → kept ≡ insert_entry nat_eq keys machine key → out ≡ outbox
    → added ≡ entries ++ record { stamp = stamp; entry = carried_entry (Drop source) (Arm machine generation ticks) } ∷ []
    → clock_view laws armed kept out added ≡ with_arm v source machine generation ticks key stamp
arm-view laws wheel armed keys kept outbox out entries added source machine generation ticks key stamp v view timers ks same more =
    rw (timers, ks, same, more)
    (ap (λ (ps : List Place). record {
      laws = laws;
      moment = wheel.moment;
      keys = insert_entry nat_eq keys machine key;
      places = ps;
      outbox = outbox;
      entries = entries ++ record { stamp = stamp; entry = carried_entry (Drop source) (Arm machine generation ticks) } ∷ [];
    }) (places-new wheel.armed keys machine (record { generation = generation; due = moment_after wheel.moment ticks }) key)
    ∙ ap (λ (w : ClockView). with_arm w source machine generation ticks key stamp) view)

-- a view whose machine lost its timer, with these items out and these entries
abbrev lost_timer : ClockView → ℕ → OutboxView → List Stamped → ClockView
lost_timer v machine out added = record v { places = with_timer_at v.places machine None; outbox = out; entries = added }

lost-view : (laws : Laws) (wheel : Timers) (keys : Known) (outbox out : OutboxView) (entries added : List Stamped) (machine : ℕ)
    → clock_view laws (with_timer_of wheel machine None) keys out added ≡ lost_timer (clock_view laws wheel keys outbox entries) machine out added
lost-view laws wheel keys outbox out entries added machine =
    ap (λ (ps : List Place). record { laws = laws; moment = wheel.moment; keys = keys; places = ps; outbox = out; entries = added })
    (places-changed wheel.armed keys machine None)

pub disarm-view : (laws : Laws) (wheel left : Timers) (keys : Known) (outbox : OutboxView) (entries added : List Stamped) (source : Source)
    (machine stamp : ℕ) (v : ClockView)
    → clock_view laws wheel keys outbox entries ≡ v → left ≡ with_timer_of wheel machine None
    → added ≡ entries ++ record { stamp = stamp; entry = carried_entry (Drop source) (Disarm machine) } ∷ []
    → clock_view laws left keys outbox added ≡ with_disarm v source machine stamp
disarm-view laws wheel left keys outbox entries added source machine stamp v view timers more =
    rw (timers, more)
    (lost-view laws wheel keys outbox outbox entries (entries ++ record { stamp = stamp; entry = carried_entry (Drop source) (Disarm machine) } ∷ []) machine
    ∙ ap (λ (w : ClockView). with_disarm w source machine stamp) view)

pub fire-view : (laws : Laws) (wheel left : Timers) (keys : Known) (outbox out : OutboxView) (entries added : List Stamped)
    (machine generation stamp : ℕ) (item : Option Item) (v : ClockView)
    → clock_view laws wheel keys outbox entries ≡ v → left ≡ with_timer_of wheel machine None
    → out ≡ put_out outbox (option_to_list item)
    → added ≡ entries ++ record { stamp = stamp; entry = fired_entry machine generation item } ∷ []
    → ((peers : Configured) → option_to_list item ≡ fired_item v peers machine generation)
    → IsFired v (clock_view laws left keys out added) machine generation stamp
fire-view laws wheel left keys outbox out entries added machine generation stamp item v view timers items more fires = record {
  item = item;
  item_is = fires;
  part_is =
      rw (timers, items, more)
      (lost-view laws wheel keys outbox (put_out outbox (option_to_list item)) entries (entries ++ record { stamp = stamp; entry = fired_entry machine generation item } ∷ []) machine
      ∙ ap (λ (w : ClockView). lost_timer w machine (put_out w.outbox (option_to_list item)) (w.entries ++ record { stamp = stamp; entry = fired_entry machine generation item } ∷ [])) view);
}

-- time passes where nothing is due
pub pass-view : (laws : Laws) (wheel after : Timers) (keys : Known) (outbox : OutboxView) (entries : List Stamped) (moment : ℕ) (v : ClockView)
    → clock_view laws wheel keys outbox entries ≡ v → after ≡ after_advance wheel (max moment wheel.moment)
    → AreFired wheel.armed (max moment wheel.moment) [] → clock_view laws after keys outbox entries ≡ passed v moment
pass-view laws wheel after keys outbox entries moment v view is none =
    rw is
    (ap (λ (armed : ByOwner). record {
      laws = laws;
      moment = max moment wheel.moment;
      keys = keys;
      places = places_of armed keys;
      outbox = outbox;
      entries = entries;
    }) (none-due wheel.armed (max moment wheel.moment) none)
    ∙ ap (λ (w : ClockView). passed w moment) view)

-- the entries of a part to which one was put
pub put-entries : (old reserved put : StampedView) (stamp : ℕ) (e kept : Entry) → reserved.entries ≡ old.entries → put ≡ added reserved stamp kept
    → kept ≡ e → put.entries ≡ old.entries ++ record { stamp = stamp; entry = e } ∷ []
put-entries old reserved put stamp e kept same is kept_is =
    ap (λ (v : StampedView). v.entries) is
    ∙ ap (λ (es : List Stamped). es ++ record { stamp = stamp; entry = kept } ∷ []) same
    ∙ ap (λ (x : Entry). old.entries ++ record { stamp = stamp; entry = x } ∷ []) kept_is

-- where time may pass, the timers are what the entries say, whether it did or not
pub so-either : (b : Bool) (wheel after : Timers) (keys : Known) (outbox : OutboxView) (log : List Entry) (now : ℕ)
    → (IsTrue b → AreFired wheel.armed now [] × (after ≡ after_advance wheel now))
    → (IsFalse b → (AreFired wheel.armed now [] → ⊥) × (after ≡ wheel))
    → AreSo wheel keys outbox log → AreSo after keys outbox log
so-either true wheel after keys outbox log now passed due so = pass-put wheel after keys outbox log now (passed refl).1 (passed refl).0 so
so-either false wheel after keys outbox log now passed due so = subst (λ w. AreSo w keys outbox log) (sym (due refl).1) so
