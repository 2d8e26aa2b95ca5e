-- The timers that are due, by the machines that had one.
use Rattle.std.proofs.Common.{◌≡◌, ◌∙◌, ℕ, nat_eq, Bool, true, false, cond, List, [], ◌∷◌, Option, Some, None, is_some, length, AllPairs, refl, ap, subst, sym, eqb-true, arith}
use Rattle.std.specs.FinMap as fin
use Rattle.std.specs.List.{IsDistinct}
use Rattle.std.specs.List.Sorted.{IsPermutation}
use Rattle.std.specs.Map.{keys_of, lookup}
use Rattle.std.specs.Option.{unwrap_or}
use Rattle.tick_wheel.specs.Places.{NotAfter, armed_of, firings_of}
use Rattle.tick_wheel.specs.Timers.{AreFired, ByOwner, IsDueFiring}
use Rattle.tick_wheel.specs.declared.timer.Firing.{Firing}
use Rattle.tick_wheel.proofs.DueLemmas.{AreFired-sorted}
use Rattle.tick_wheel.proofs.PlaceLemmas.{get-armed_of, same_armed}
use Rattle.bench_item.specs.declared.key.Key.{Key}
use Rattle.live_parts.specs.Clocks.{AreKnown, Known, places_of}

-- a machine has a place where it is among those that had a timer
looked : (armed : ByOwner) (keys : Known) (q : ℕ)
    → lookup (nat_eq q) (places_of armed keys) ≡ cond (is_some (lookup (nat_eq q) keys)) (Some (fin.get armed q)) None
looked armed [] q = refl
looked armed (e ∷ es) q = by (nat_eq q e.0) refl (looked armed es q)
  where
    by : (b : Bool) → nat_eq q e.0 ≡ b
        → lookup (nat_eq q) (places_of armed es) ≡ cond (is_some (lookup (nat_eq q) es)) (Some (fin.get armed q)) None
        → cond b (Some (fin.get armed e.0)) (lookup (nat_eq q) (places_of armed es))
        ≡ cond (is_some (cond b (Some e.1) (lookup (nat_eq q) es))) (Some (fin.get armed q)) None
    by true same again = ap (λ k. Some (fin.get armed k)) (sym (eqb-true q e.0 same))
    by false apart again = again

-- what stands at the place of a machine is its timer
pub timer-at : (armed : ByOwner) (keys : Known) (q : ℕ) → AreKnown armed keys
    → unwrap_or (lookup (nat_eq q) (places_of armed keys)) None ≡ fin.get armed q
timer-at armed keys q known = ap (λ o. unwrap_or o None) (looked armed keys q) ∙ by (lookup (nat_eq q) keys) (known q)
  where
    by : (o : Option (Option Key)) → (o ≡ None → fin.get armed q ≡ None)
        → unwrap_or (cond (is_some o) (Some (fin.get armed q)) None) None ≡ fin.get armed q
    by None none = sym (none refl)
    by (Some key) none = refl

-- the places have all timers that are armed
pub armed-places : (armed : ByOwner) (keys : Known) → AreKnown armed keys → armed_of (places_of armed keys) ≡ armed
armed-places armed keys known =
    same_armed (armed_of (places_of armed keys)) armed
    (λ q. get-armed_of (places_of armed keys) q ∙ timer-at armed keys q known)

keys-places : (armed : ByOwner) (keys : Known) → keys_of (places_of armed keys) ≡ keys_of keys
keys-places armed [] = refl
keys-places armed (e ∷ es) = ap (λ ks. e.0 ∷ ks) (keys-places armed es)

-- what is due of them, sorted, is what is due
pub due-sorted : (armed : ByOwner) (keys : Known) (now : ℕ) (found fired : List Firing) → IsDistinct nat_eq (keys_of keys) → AreKnown armed keys
    → found ≡ firings_of now (places_of armed keys) → IsPermutation found fired → AllPairs NotAfter fired → AreFired armed now fired
due-sorted armed keys now found fired distinct known is moved sorted =
    subst (λ a. AreFired a now fired) (armed-places armed keys known)
    (AreFired-sorted now (places_of armed keys) fired (subst (IsDistinct nat_eq) (sym (keys-places armed keys)) distinct)
    (subst (λ fs. IsPermutation fs fired) is moved) sorted)

-- of what is due there is none where there are as many as of nothing
pub none-fired : (armed : ByOwner) (now : ℕ) (fired : List Firing) → AreFired armed now fired → length fired ≡ 0 → AreFired armed now []
none-fired armed now [] are none = are
none-fired armed now (f ∷ fs) are none = absurd (omega (arith, none))

-- one is due, so not none
pub some-due : (armed : ByOwner) (now : ℕ) (firing : Firing) → IsDueFiring armed now firing → AreFired armed now [] → ⊥
some-due armed now firing due none = let there = (none.each firing).1 due in omega (arith, there.1)

-- what is due by the places is what is due
pub as-due : (armed : ByOwner) (keys : Known) (now : ℕ) (due : List Firing) → AreKnown armed keys → AreFired armed now due
    → AreFired (armed_of (places_of armed keys)) now due
as-due armed keys now due known fired = subst (λ a. AreFired a now due) (sym (armed-places armed keys known)) fired

pub from-due : (armed : ByOwner) (keys : Known) (now : ℕ) (due : List Firing) → AreKnown armed keys
    → AreFired (armed_of (places_of armed keys)) now due → AreFired armed now due
from-due armed keys now due known fired = subst (λ a. AreFired a now due) (armed-places armed keys known) fired
