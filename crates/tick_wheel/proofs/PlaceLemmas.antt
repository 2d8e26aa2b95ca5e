-- What the wheel shows of its places, owner by owner.
use Rattle.std.proofs.Common.{◌≡◌, ◌≢◌, ℕ, ◌≤◌, min, Bool, true, false, not, cond, ◌||◌, List, [], ◌∷◌, ◌++◌, length, append_assoc, Option, Some, None, Result, Ok, Err, OnErr, refl, sym, ap, subst, ◌∙◌, true≢false, is_some, nat_eq, eqb-true, arith}
use Rattle.std.specs.Option.{unwrap_or, option_map, IsSome, IfSome}
use Rattle.std.specs.List.{list_any, cons_option}
use Rattle.std.specs.Map.{lookup, set_value, keys_of}
use Rattle.std.specs.Cmp.{unsigned_tied, nat_cmp_total, nat_eq_equiv}
use Rattle.std.specs.Ordering.{nat_cmp}
use Rattle.std.specs.FinMap as fin
use Rattle.std.specs.FinSet as set
use Rattle.std.proofs.lemmas.List.{length-append}
use Rattle.std.proofs.lemmas.Map.Made.{is_some-lookup, lookup-map_values}
use Rattle.std.proofs.lemmas.Map.{lookup-set_value}
use Rattle.tick_wheel.specs.declared.timer.Armed.{Armed}
use Rattle.tick_wheel.specs.declared.timer.Firing.{Firing}
use Rattle.tick_wheel.specs.Timers.{ByOwner, with_timer, is_due}
use Rattle.tick_wheel.specs.Places.{Place, armed_of, bound_with, firing_of, firings_of, later_due, left_at, places_at, next_due, NoneDueBefore}

-- no place of the owner: nothing is put
pub set_value-absent : {X : Type 0} (test : ℕ → Bool) (es : List (ℕ × X)) (w : X) → lookup test es ≡ None
    → set_value test es w ≡ es
set_value-absent test [] w none = refl
set_value-absent test (e ∷ es) w none = by (test e.0) none (set_value-absent test es w)
  where
    by : (b : Bool) → cond b (Some e.1) (lookup test es) ≡ None → (lookup test es ≡ None → set_value test es w ≡ es)
        → cond b ((e.0, w) ∷ es) (e ∷ set_value test es w) ≡ e ∷ es
    by true found rest = absurd (true≢false (ap is_some found))
    by false found rest = ap (λ es. e ∷ es) (rest found)

-- what stands at an owner
abbrev pub timer_at : List Place → ℕ → Option Armed
timer_at places owner = unwrap_or (lookup (nat_eq owner) places) None

-- the owner's timer, once it is put so
pub get-with_timer : (armed : ByOwner) (k : ℕ) (timer : Option Armed) (q : ℕ)
    → fin.get (with_timer armed k timer) q ≡ cond (nat_eq q k) timer (fin.get armed q)
get-with_timer armed k None q =
    fin.get-remove nat_cmp_total armed k q ∙ ap (λ b. cond b None (fin.get armed q)) (unsigned_tied q k)
get-with_timer armed k (Some timer) q =
    fin.get-insert nat_cmp_total armed k timer q ∙ ap (λ b. cond b (Some timer) (fin.get armed q)) (unsigned_tied q k)

-- the first place of the owner decides
first_decides : (here : Bool) (timer : Option Armed) (rest : Option (Option Armed))
    → cond here timer (unwrap_or rest None) ≡ unwrap_or (cond here (Some timer) rest) None
first_decides true timer rest = refl
first_decides false timer rest = refl

-- what is shown at an owner is what its place has
pub get-armed_of : (places : List Place) (q : ℕ) → fin.get (armed_of places) q ≡ timer_at places q
get-armed_of [] q = fin.get-empty nat_cmp q
get-armed_of (place ∷ places) q =
    get-with_timer (armed_of places) place.0 place.1 q
    ∙ ap (cond (nat_eq q place.0) place.1) (get-armed_of places q)
    ∙ first_decides (nat_eq q place.0) place.1 (lookup (nat_eq q) places)

-- two maps that answer alike are one
pub same_armed : (one other : ByOwner) → ((q : ℕ) → fin.get one q ≡ fin.get other q) → one ≡ other
same_armed = fin.same_map nat_cmp_total fin.nat_cmp-IsAntisymmetric

-- a change of one owner's timer
pub armed_of-changed : (old new : List Place) (k : ℕ) (timer : Option Armed)
    → ((q : ℕ) → timer_at new q ≡ cond (nat_eq q k) timer (timer_at old q))
    → armed_of new ≡ with_timer (armed_of old) k timer
armed_of-changed old new k timer change =
    same_armed (armed_of new) (with_timer (armed_of old) k timer)
    (λ q. get-armed_of new q ∙ change q ∙ ap (cond (nat_eq q k) timer) (sym (get-armed_of old q)) ∙ sym (get-with_timer (armed_of old) k timer q))

-- an owner has a place exactly where a look finds one
pub contains-places : (places : List Place) (q : ℕ)
    → set.contains (set.from_list {R = nat_cmp} (keys_of places)) q ≡ is_some (lookup (nat_eq q) places)
contains-places places q =
    set.contains-from_list nat_cmp_total (keys_of places) q
    ∙ (λ i. list_any (λ y. unsigned_tied q y i) (keys_of places))
    ∙ sym (is_some-lookup (nat_eq q) places)

-- one more place
pub places-changed : (old new : List Place) (k : ℕ)
    → ((q : ℕ) → is_some (lookup (nat_eq q) new) ≡ (nat_eq q k || is_some (lookup (nat_eq q) old)))
    → set.from_list {R = nat_cmp} (keys_of new) ≡ set.insert (set.from_list (keys_of old)) k
places-changed old new k change =
    set.same_set nat_cmp_total set.nat_cmp-IsAntisymmetric _ _
    (λ q. contains-places new q ∙ change q ∙ (λ i. sym (unsigned_tied q k) i || sym (contains-places old q) i)
    ∙ sym (set.contains-insert nat_cmp_total (set.from_list (keys_of old)) k q))

-- an owner without a place has no timer, so that to put none there changes nothing
none_put : (places : List Place) (k q : ℕ) → lookup (nat_eq k) places ≡ None
    → timer_at places q ≡ cond (nat_eq q k) None (timer_at places q)
none_put places k q absent = by (nat_eq q k) refl
  where
    by : (b : Bool) → nat_eq q k ≡ b → timer_at places q ≡ cond b None (timer_at places q)
    by true same = ap (timer_at places) (eqb-true q k same) ∙ ap (λ found. unwrap_or found None) absent
    by false differ = refl

-- a put at a place changes the owner's timer alone
timer_at-set_value-present : (places : List Place) (k : ℕ) (timer : Option Armed) → IsSome (lookup (nat_eq k) places)
    → (q : ℕ) → timer_at (set_value (nat_eq k) places timer) q ≡ cond (nat_eq q k) timer (timer_at places q)
timer_at-set_value-present places k timer there q =
    ap (λ found. unwrap_or found None) (lookup-set_value nat_eq_equiv (nat_eq k) (nat_eq_equiv.congr k) q timer places there)
    ∙ sym (first_decides (nat_eq k q) timer (lookup (nat_eq q) places))
    ∙ ap (λ b. cond b timer (timer_at places q)) (nat_eq_equiv.symm k q)

-- to put no timer changes the owner's timer alone, with a place and without
timer_at-set_value-none : (places : List Place) (k q : ℕ)
    → timer_at (set_value (nat_eq k) places None) q ≡ cond (nat_eq q k) None (timer_at places q)
timer_at-set_value-none places k q = by (lookup (nat_eq k) places) refl
  where
    by : (found : Option (Option Armed)) → lookup (nat_eq k) places ≡ found
        → timer_at (set_value (nat_eq k) places None) q ≡ cond (nat_eq q k) None (timer_at places q)
    by None absent =
        ap (λ es. timer_at es q) (set_value-absent (nat_eq k) places None absent) ∙ none_put places k q absent
    by (Some timer) there = timer_at-set_value-present places k None (ap is_some there) q

-- a put keeps the owners
pub keys_of-set_value : (places : List Place) (k : ℕ) (timer : Option Armed)
    → keys_of (set_value (nat_eq k) places timer) ≡ keys_of places
keys_of-set_value [] k timer = refl
keys_of-set_value (place ∷ places) k timer = by (nat_eq k place.0) (keys_of-set_value places k timer)
  where
    by : (b : Bool) → keys_of (set_value (nat_eq k) places timer) ≡ keys_of places
        → keys_of (cond b ((place.0, timer) ∷ places) (place ∷ set_value (nat_eq k) places timer)) ≡ keys_of (place ∷ places)
    by true rest = refl
    by false rest = ap (λ owners. place.0 ∷ owners) rest

-- what the moment leaves at a place
left_of : (now : ℕ) (found : Option (Option Armed))
    → unwrap_or (option_map (left_at now) found) None ≡ cond (not (is_due now (unwrap_or found None))) (unwrap_or found None) None
left_of now None = refl
left_of now (Some timer) = by (is_due now timer)
  where
    by : (b : Bool) → cond b None timer ≡ cond (not b) timer None
    by true = refl
    by false = refl

-- the armed timers, once the moment has come
pub armed_of-places_at : (places : List Place) (now : ℕ)
    → armed_of (places_at now places) ≡ fin.retain_keys (armed_of places) (λ q. not (is_due now (fin.get (armed_of places) q)))
armed_of-places_at places now =
    let stays : ℕ → Bool = λ q. not (is_due now (fin.get (armed_of places) q)) in
    same_armed (armed_of (places_at now places)) (fin.retain_keys (armed_of places) stays)
    (λ q. get-armed_of (places_at now places) q
    ∙ ap (λ found. unwrap_or found None) (lookup-map_values (left_at now) (nat_eq q) places)
    ∙ left_of now (lookup (nat_eq q) places)
    ∙ (λ i. cond (not (is_due now (sym (get-armed_of places q) i))) (sym (get-armed_of places q) i) None)
    ∙ sym (fin.get-retain_keys (armed_of places) stays q (λ x tied. ap stays (sym (fin.nat_cmp-IsAntisymmetric q x tied)))))

-- the moment keeps the owners
pub keys_of-places_at : (places : List Place) (now : ℕ) → keys_of (places_at now places) ≡ keys_of places
keys_of-places_at [] now = refl
keys_of-places_at (place ∷ places) now = ap (λ owners. place.0 ∷ owners) (keys_of-places_at places now)

-- a bound holds with one more timer that it allows
pub NoneDueBefore-with_timer : (armed : ByOwner) (k : ℕ) (timer : Option Armed) (bound low : ℕ) → low ≤ bound
    → NoneDueBefore bound armed → IfSome timer (λ t. low ≤ t.due) → NoneDueBefore low (with_timer armed k timer)
NoneDueBefore-with_timer armed k timer bound low lower none allowed q t at =
    by (nat_eq q k) (sym (get-with_timer armed k timer q) ∙ at)
  where
    by : (b : Bool) → cond b timer (fin.get armed q) ≡ Some t → low ≤ t.due
    by true is = subst (λ o. IfSome o (λ t. low ≤ t.due)) is allowed
    by false is = let h = none q t is in omega arith

-- no due moment is past the last
pub next_due-le : (now : ℕ) (places : List Place) → next_due now places ≤ 18446744073709551615
next_due-le now [] = omega arith
next_due-le now (place ∷ places) = let rest = next_due-le now places in omega arith

-- new has the timer at the owner, and at each other owner what old has
abbrev pub IsUpdated : List Place → List Place → ℕ → Option Armed → Type 0
IsUpdated old new k timer = (q : ℕ) → lookup (nat_eq q) new ≡ cond (nat_eq k q) (Some timer) (lookup (nat_eq q) old)

-- what an insert leaves at an owner
timer_at-updated : (old new : List Place) (k : ℕ) (timer : Option Armed) → IsUpdated old new k timer → (q : ℕ)
    → timer_at new q ≡ cond (nat_eq q k) timer (timer_at old q)
timer_at-updated old new k timer updates q =
    ap (λ found. unwrap_or found None) (updates q)
    ∙ sym (first_decides (nat_eq k q) timer (lookup (nat_eq q) old))
    ∙ ap (λ b. cond b timer (timer_at old q)) (nat_eq_equiv.symm k q)

-- the armed timers after an insert
pub armed_of-updated : (old new : List Place) (k : ℕ) (timer : Option Armed) → IsUpdated old new k timer
    → armed_of new ≡ with_timer (armed_of old) k timer
armed_of-updated old new k timer updates = armed_of-changed old new k timer (timer_at-updated old new k timer updates)

-- the owners after an insert
pub places-updated : (old new : List Place) (k : ℕ) (timer : Option Armed) → IsUpdated old new k timer
    → set.from_list {R = nat_cmp} (keys_of new) ≡ set.insert (set.from_list (keys_of old)) k
places-updated old new k timer updates =
    places-changed old new k (λ q. ap is_some (updates q) ∙ either (nat_eq k q) (lookup (nat_eq q) old) ∙ ap (λ b. b || is_some (lookup (nat_eq q) old)) (nat_eq_equiv.symm k q))
  where
    either : (b : Bool) (o : Option (Option Armed)) → is_some (cond b (Some timer) o) ≡ (b || is_some o)
    either true o = refl
    either false o = refl

-- the armed timers after a put at a place
pub armed_of-put : (places : List Place) (k : ℕ) (timer : Option Armed) → IsSome (lookup (nat_eq k) places)
    → armed_of (set_value (nat_eq k) places timer) ≡ with_timer (armed_of places) k timer
armed_of-put places k timer there =
    armed_of-changed places (set_value (nat_eq k) places timer) k timer (timer_at-set_value-present places k timer there)

-- and after a put of none, with a place and without
pub armed_of-put_none : (places : List Place) (k : ℕ)
    → armed_of (set_value (nat_eq k) places None) ≡ fin.remove (armed_of places) k
armed_of-put_none places k =
    armed_of-changed places (set_value (nat_eq k) places None) k None (timer_at-set_value-none places k)

-- the bound allows the timer with which it was taken
pub bound_with-allows : (bound : ℕ) (timer : Option Armed)
    → (bound_with bound timer ≤ bound) × IfSome timer (λ t. bound_with bound timer ≤ t.due)
bound_with-allows bound None = (omega arith, tt)
bound_with-allows bound (Some timer) = (omega arith, omega arith)

-- what holds in any case holds of an error
pub of_error : {T E : Type 0} (r : Result T E) (P : Type 0) → P → OnErr r P
of_error (Ok x) P p = tt
of_error (Err e) P p = p

-- a place was looked at that has a firing: it goes behind what was found
pub found-some : (now : ℕ) (due new all : List Firing) (left rest : List Place) (place : Place) (firing : Firing)
    → due ++ firings_of now left ≡ all → left ≡ place ∷ rest → firing_of now place ≡ Some firing → new ≡ due ++ firing ∷ []
    → new ++ firings_of now rest ≡ all
found-some now due new all left rest place firing found steps some more =
    ap (λ xs. xs ++ firings_of now rest) more
    ∙ append_assoc due (firing ∷ []) (firings_of now rest)
    ∙ ap (λ o. due ++ cons_option o (firings_of now rest)) (sym some)
    ∙ ap (λ xs. due ++ firings_of now xs) (sym steps)
    ∙ found

-- one that has none
pub found-none : (now : ℕ) (due all : List Firing) (left rest : List Place) (place : Place)
    → due ++ firings_of now left ≡ all → left ≡ place ∷ rest → firing_of now place ≡ None → due ++ firings_of now rest ≡ all
found-none now due all left rest place found steps none =
    ap (λ o. due ++ cons_option o (firings_of now rest)) (sym none) ∙ ap (λ xs. due ++ firings_of now xs) (sym steps) ∙ found

-- the least due moment, with one more place looked at
pub least-step : (now least later earliest all : ℕ) (left rest : List Place) (place : Place)
    → min earliest (next_due now left) ≡ all → left ≡ place ∷ rest → later ≡ later_due now place.1 → least ≡ min earliest later
    → min least (next_due now rest) ≡ all
least-step now least later earliest all left rest place found steps is with_it =
    let e = ap (next_due now) steps in omega arith

-- where a firing was left to be added, some timer is due
pub found-not_none : (now : ℕ) (due all : List Firing) (left rest : List Place) (place : Place) (firing : Firing)
    → due ++ firings_of now left ≡ all → left ≡ place ∷ rest → firing_of now place ≡ Some firing → all ≢ []
found-not_none now due all left rest place firing found steps some none =
    let e = ap length (found-some now due (due ++ firing ∷ []) all left rest place firing found steps some refl ∙ none) in
    let a = length-append (due ++ firing ∷ []) (firings_of now rest) in
    let b = length-append due (firing ∷ []) in
    omega arith
