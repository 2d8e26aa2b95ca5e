-- Which timers are due, by the places and by what is shown of them.
use Rattle.std.proofs.Common.{◌≡◌, ℕ, ◌-◌, ◌^◌, ◌<◌, ◌≤◌, min, ◌⊎◌, ◌↔◌, Bool, true, false, not, cond, List, [], ◌∷◌, map, length, get_or, Option, Some, None, AllPairs, Contains, refl, sym, ap, subst, ◌∙◌, inl, inr, true≢false, is_some, nat_eq, nat_le, eqb-true, eq-eqb, leb-true, arith}
use Rattle.std.specs.Option.{unwrap_or}
use Rattle.std.specs.List.{cons_option, AllByRecursion, IsDistinct}
use Rattle.std.specs.List.Sorted.{IsPermutation}
use Rattle.std.specs.Map.{lookup, keys_of}
use Rattle.std.specs.Cmp.{nat_eq_equiv}
use Rattle.std.specs.Ordering.{nat_cmp}
use Rattle.std.specs.FinMap as fin
use Rattle.std.proofs.lemmas.Bool.{le-leb, lt-leb}
use Rattle.std.proofs.lemmas.List.{length-map}
use Rattle.std.proofs.lemmas.List.Sorted.{Contains-permutation, IsPermutation-map, IsPermutation-sym}
use Rattle.std.proofs.lemmas.Map.Keys.{IsDistinct-head, IsDistinct-tail, IsDistinct-cons, IsDistinct-IsPermutation, apart_from_distinct}
use Rattle.std.proofs.lemmas.Map.Views.{Contains-from_lookup, lookup-from_Contains}
use Rattle.std.proofs.Math.ListN.{get_or-map}
use Rattle.tick_wheel.specs.declared.timer.Armed.{Armed}
use Rattle.tick_wheel.specs.declared.timer.Firing.{Firing}
use Rattle.tick_wheel.specs.Timers.{ByOwner, AreFired, ComesBefore, IsDueFiring, is_due}
use Rattle.tick_wheel.specs.Places.{Place, armed_of, firing_of, firings_of, left_at, next_due, later_due, places_at, NoneDueBefore, NotAfter}
use Rattle.tick_wheel.proofs.OrderLemmas.{before_not_after, head_or_rest, Contains-head, Contains-rest, one_in_order}
use Rattle.tick_wheel.proofs.PlaceLemmas.{get-armed_of, same_armed}

-- the timer that fired so
abbrev pub timer_of : Firing → Armed
timer_of f = record { generation = f.generation; due = f.due }

-- the place that it had
abbrev pub place_of : Firing → Place
place_of f = (f.owner, Some (timer_of f))

-- the firing of an owner's timer
abbrev firing_from : ℕ → Armed → Firing
firing_from owner t = record { due = t.due; owner = owner; generation = t.generation }

-- the place of a firing has its timer, which is due
firing_of-some : (now : ℕ) (place : Place) (f : Firing) → firing_of now place ≡ Some f
    → (place ≡ (place_of f)) × (f.due ≤ now)
firing_of-some now (owner, None) f is = absurd (true≢false (sym (ap is_some is)))
firing_of-some now (owner, Some t) f is = by (nat_le t.due now) refl is
  where
    by : (b : Bool) → nat_le t.due now ≡ b → cond b (Some (firing_from owner t)) None ≡ Some f
        → (◌≡◌ {A = Place} (owner, Some t) (place_of f)) × (f.due ≤ now)
    by true due is =
        let same : firing_from owner t ≡ f = ap (λ o. unwrap_or o f) is in
        ((λ i. ((same i).owner, Some (timer_of (same i)))), subst (λ (g : Firing). g.due ≤ now) same (leb-true t.due now due))
    by false due is = absurd (true≢false (sym (ap is_some is)))

-- a place with such a timer gives the firing
firing_of-due : (now : ℕ) (f : Firing) → f.due ≤ now → firing_of now (place_of f) ≡ Some f
firing_of-due now f due = ap (λ b. cond b (Some f) None) (le-leb f.due now due)

-- each firing is that of a place
from_firings_of : (now : ℕ) (places : List Place) (f : Firing) → Contains (firings_of now places) f
    → Contains places (place_of f) × (f.due ≤ now)
from_firings_of now [] f there = absurd (omega (arith, there.1))
from_firings_of now (place ∷ places) f there = by (firing_of now place) refl there (from_firings_of now places f)
  where
    later : Contains places (place_of f) × (f.due ≤ now) → Contains (place ∷ places) (place_of f) × (f.due ≤ now)
    later rest = (Contains-rest place (place_of f) places rest.0, rest.1)

    by : (o : Option Firing) → firing_of now place ≡ o → Contains (cons_option o (firings_of now places)) f
        → (Contains (firings_of now places) f → Contains places (place_of f) × (f.due ≤ now))
        → Contains (place ∷ places) (place_of f) × (f.due ≤ now)
    by None is there rest = later (rest there)
    by (Some g) is there rest = elim (head_or_rest g f (firings_of now places) there) [
      | inl same ↦
          let at = firing_of-some now place f (is ∙ ap Some same) in
          (subst (λ p. Contains (p ∷ places) (place_of f)) (sym at.0) (Contains-head (place_of f) places), at.1)
      | inr among ↦ later (rest among)
    ]

-- one more firing, if there is one, leaves the others
among_option : (o : Option Firing) (fs : List Firing) (f : Firing) → Contains fs f → Contains (cons_option o fs) f
among_option None fs f there = there
among_option (Some g) fs f there = Contains-rest g f fs there

-- each place whose timer is due has its firing
into_firings_of : (now : ℕ) (places : List Place) (f : Firing) → f.due ≤ now → Contains places (place_of f)
    → Contains (firings_of now places) f
into_firings_of now [] f due there = absurd (omega (arith, there.1))
into_firings_of now (place ∷ places) f due there =
    by (head_or_rest place (place_of f) places there) (into_firings_of now places f due)
  where
    by : (place ≡ (place_of f)) ⊎ Contains places (place_of f)
        → (Contains places (place_of f) → Contains (firings_of now places) f)
        → Contains (firings_of now (place ∷ places)) f
    by (inl here) rest =
        let is : firing_of now place ≡ Some f = ap (firing_of now) here ∙ firing_of-due now f due in
        subst (λ o. Contains (cons_option o (firings_of now places)) f) (sym is) (Contains-head f (firings_of now places))
    by (inr among) rest = among_option (firing_of now place) (firings_of now places) f (rest among)

-- numbers that `==` tells apart
same_number : (x y : ℕ) → nat_eq x y ≡ true → x ≡ y
same_number x y = eqb-true x y

-- a timer that is shown is that of its place
pub get-due : (places : List Place) (q : ℕ) (t : Armed) → fin.get (armed_of places) q ≡ Some t
    → lookup (nat_eq q) places ≡ Some (Some t)
get-due places q t is = by (lookup (nat_eq q) places) (sym (get-armed_of places q) ∙ is)
  where
    by : (o : Option (Option Armed)) → unwrap_or o None ≡ Some t → o ≡ Some (Some t)
    by None is = absurd (true≢false (sym (ap is_some is)))
    by (Some timer) is = ap Some is

-- the firings are those of the timers that are due
pub firings_of-due : (now : ℕ) (places : List Place) → IsDistinct nat_eq (keys_of places) → (f : Firing)
    → Contains (firings_of now places) f ↔ IsDueFiring (armed_of places) now f
firings_of-due now places distinct f = (into, back)
  where
    into : Contains (firings_of now places) f → IsDueFiring (armed_of places) now f
    into there =
        let at = from_firings_of now places f there in
        let found = lookup-from_Contains nat_eq_equiv f.owner (Some (timer_of f)) places distinct at.0 in
        (get-armed_of places f.owner ∙ ap (λ o. unwrap_or o None) found, at.1)

    back : IsDueFiring (armed_of places) now f → Contains (firings_of now places) f
    back due =
        let found = get-due places f.owner (timer_of f) due.0 in
        into_firings_of now places f due.1 (Contains-from_lookup same_number f.owner (Some (timer_of f)) places found)

-- the owners of firings
abbrev pub owners_of : List Firing → List ℕ
owners_of fs = map (λ f. f.owner) fs

-- what holds of each owner holds of those that fire
owners_of-firings_of : (P : ℕ → Type 0) (now : ℕ) (places : List Place) → AllByRecursion P (keys_of places)
    → AllByRecursion P (owners_of (firings_of now places))
owners_of-firings_of P now [] all = all
owners_of-firings_of P now (place ∷ places) all =
    by (firing_of now place) refl (owners_of-firings_of P now places all.1)
  where
    by : (o : Option Firing) → firing_of now place ≡ o → AllByRecursion P (owners_of (firings_of now places))
        → AllByRecursion P (owners_of (cons_option o (firings_of now places)))
    by None is rest = rest
    by (Some f) is rest = (subst P (ap (λ p. p.0) (firing_of-some now place f is).0) all.0, rest)

-- each owner fires once
pub IsDistinct-firings_of : (now : ℕ) (places : List Place) → IsDistinct nat_eq (keys_of places)
    → IsDistinct nat_eq (owners_of (firings_of now places))
IsDistinct-firings_of now [] distinct = distinct
IsDistinct-firings_of now (place ∷ places) distinct =
    by (firing_of now place) refl (IsDistinct-firings_of now places (IsDistinct-tail nat_eq place.0 (keys_of places) distinct))
  where
    others : AllByRecursion (λ y. nat_eq place.0 y ≡ false) (owners_of (firings_of now places))
    others =
        owners_of-firings_of (λ y. nat_eq place.0 y ≡ false) now places (IsDistinct-head nat_eq place.0 (keys_of places) distinct)

    by : (o : Option Firing) → firing_of now place ≡ o → IsDistinct nat_eq (owners_of (firings_of now places))
        → IsDistinct nat_eq (owners_of (cons_option o (firings_of now places)))
    by None is rest = rest
    by (Some f) is rest =
        let same : place.0 ≡ f.owner = ap (λ p. p.0) (firing_of-some now place f is).0 in
        IsDistinct-cons nat_eq f.owner (owners_of (firings_of now places)) (subst (λ k. AllByRecursion (λ y. nat_eq k y ≡ false) (owners_of (firings_of now places))) same others) rest

-- sorted firings of owners that differ are in order
in_order : (fs : List Firing) → IsDistinct nat_eq (owners_of fs) → AllPairs NotAfter fs → AllPairs ComesBefore fs
in_order fs distinct sorted i j d before inside =
    let within : j < length (owners_of fs) = subst (λ n. j < n) (sym (length-map fs (λ f. f.owner))) inside in
    let differ = apart_from_distinct nat_eq (owners_of fs) i j d.owner distinct before within in
    let apart : nat_eq (get_or fs i d).owner (get_or fs j d).owner ≡ false =
    (λ k. nat_eq (sym (get_or-map (λ (f : Firing). f.owner) fs i d) k) (sym (get_or-map (λ (f : Firing). f.owner) fs j d) k)) ∙ differ in
    before_not_after (get_or fs i d) (get_or fs j d) (sorted i j d before inside)
    (λ same. true≢false (sym (eq-eqb (get_or fs i d).owner (get_or fs j d).owner same) ∙ apart))

-- the sorted firings of the places are what fires
pub AreFired-sorted : (now : ℕ) (places : List Place) (fired : List Firing) → IsDistinct nat_eq (keys_of places)
    → IsPermutation (firings_of now places) fired → AllPairs NotAfter fired → AreFired (armed_of places) now fired
AreFired-sorted now places fired distinct moved sorted =
    let owners = IsDistinct-IsPermutation nat_eq nat_eq_equiv.symm (owners_of (firings_of now places)) (owners_of fired)
    (IsPermutation-map (λ f. f.owner) (firings_of now places) fired moved) (IsDistinct-firings_of now places distinct) in
    record {
      each = λ f.
          let due = firings_of-due now places distinct f in (
            (λ there. due.0 (Contains-permutation fired (firings_of now places) f (IsPermutation-sym (firings_of now places) fired moved) there)),
            (λ is. Contains-permutation (firings_of now places) fired f moved (due.1 is)),
          );
      ordered = in_order fired owners sorted;
    }

-- and nothing else is
pub AreFired-only : (armed : ByOwner) (now : ℕ) (a b : List Firing) → AreFired armed now a → AreFired armed now b
    → a ≡ b
AreFired-only armed now a b one other =
    one_in_order a b one.ordered other.ordered (λ f there. (other.each f).1 ((one.each f).0 there)) (λ f there. (one.each f).1 ((other.each f).0 there))

-- where something is found, a timer is due
pub some_due : (now : ℕ) (places : List Place) → IsDistinct nat_eq (keys_of places) → (firings_of now places ≡ [] → ⊥)
    → (f : Firing) × IsDueFiring (armed_of places) now f
some_due now places distinct found = by (firings_of now places) refl
  where
    by : (fs : List Firing) → firings_of now places ≡ fs → (f : Firing) × IsDueFiring (armed_of places) now f
    by [] is = absurd (found is)
    by (f ∷ fs) is =
        (f, (firings_of-due now places distinct f).0 (subst (λ l. Contains l f) (sym is) (Contains-head f fs)))

-- before the bound nothing fires
pub AreFired-before : (armed : ByOwner) (bound now : ℕ) → NoneDueBefore bound armed → now < bound
    → AreFired armed now []
AreFired-before armed bound now none early = record {
  each =
      λ f. ((λ there. absurd (omega (arith, there.1))), (λ due. let late = none f.owner (timer_of f) due.0 in absurd (omega (arith, due.1))));
  ordered = λ i j d before inside. absurd (omega arith);
}

-- before the bound the moment changes nothing
pub retain-before : (armed : ByOwner) (bound now : ℕ) → NoneDueBefore bound armed → now < bound
    → fin.retain_keys armed (λ q. not (is_due now (fin.get armed q))) ≡ armed
retain-before armed bound now none early =
    let stays : ℕ → Bool = λ q. not (is_due now (fin.get armed q)) in
    same_armed (fin.retain_keys armed stays) armed
    (λ q. fin.get-retain_keys armed stays q (λ x tied. ap stays (sym (fin.nat_cmp-IsAntisymmetric q x tied))) ∙ by (fin.get armed q) (none q))
  where
    by : (o : Option Armed) → ((t : Armed) → o ≡ Some t → bound ≤ t.due) → cond (not (is_due now o)) o None ≡ o
    by None none = refl
    by (Some t) none = let late = none t refl in ap (λ b. cond (not b) (Some t) None) (lt-leb t.due now (omega arith))

-- what is left of a timer is due no earlier than the next due moment
later_due-left_at : (now : ℕ) (timer : Option Armed) (t : Armed) → left_at now timer ≡ Some t
    → later_due now timer ≤ t.due
later_due-left_at now None t is = absurd (true≢false (sym (ap is_some is)))
later_due-left_at now (Some s) t is = by (nat_le s.due now) is
  where
    by : (b : Bool) → cond b None (Some s) ≡ Some t → cond b (2 ^ 64 - 1) s.due ≤ t.due
    by true is = absurd (true≢false (sym (ap is_some is)))
    by false is = let same : s.due ≡ t.due = ap (λ o. (unwrap_or o s).due) is in omega arith

-- after the moment no timer is due before the next due moment
pub NoneDueBefore-next_due : (now : ℕ) (places : List Place)
    → NoneDueBefore (next_due now places) (armed_of (places_at now places))
NoneDueBefore-next_due now [] q t is = absurd (true≢false (sym (ap is_some (sym (fin.get-empty nat_cmp q) ∙ is))))
NoneDueBefore-next_due now (place ∷ places) q t is =
    by (nat_eq q place.0) (sym (get-armed_of (places_at now (place ∷ places)) q) ∙ is) (NoneDueBefore-next_due now places q t)
  where
    by : (b : Bool)
        → unwrap_or (cond b (Some (left_at now place.1)) (lookup (nat_eq q) (places_at now places))) None ≡ Some t
        → (fin.get (armed_of (places_at now places)) q ≡ Some t → next_due now places ≤ t.due) → min (later_due now place.1) (next_due now places) ≤ t.due
    by true is rest = let here = later_due-left_at now place.1 t is in omega arith
    by false is rest = let later = rest (get-armed_of (places_at now places) q ∙ is) in omega arith
