use Rattle.std.proofs.Common.{◌≡◌, ◌≢◌, ℕ, ◌<◌, ◌≤◌, Bool, true, false, cond, List, [], ◌∷◌, ◌++◌, Option, Some, None, length, get_or, take, arith, refl, length-append, is_some}
use Rattle.std.specs.Prelude.{position, nat_le, nat_lt, Result, Ok, Err, OnOk, OnErr}
use Rattle.std.specs.List.{position_or_len, slice_get}
use Rattle.std.proofs.lemmas.List.{length-take, get_or-take}
use Rattle.std.specs.Str.{bytes_eq}
use Rattle.std.proofs.lemmas.Slice.Eq.{bytes_eq-Decides}
use Rattle.std.proofs.lemmas.List.Sums.{fails_before_first}
use Rattle.std.proofs.lemmas.List.Folds.{find_at}
use Rattle.std.proofs.lemmas.List.Quantifiers.{all_pairs_push}
use Rattle.base_list.specs.declared.named.Named.{Named}
use Rattle.base_list.specs.Named.{place_of, entry_of, refusal, HasOwnNames}

no-none : {X : Type 0} (b : Bool) (x : X) → cond b (Some x) None ≡ None → b ≡ false
no-none true x h = cc
no-none false x h = refl

-- what no element passes, by the place of the first
pub position-None : {X : Type 0} (p : X → Bool) (xs : List X) → position p xs ≡ None → (k : ℕ) (d : X) → k < length xs → p (get_or xs k d) ≡ false
position-None p xs h k d l =
    let no : nat_lt (position_or_len p xs) (length xs) ≡ false = no-none _ _ h in
    fails_before_first p xs k d (grind arith)

no-fault : {X F : Type 0} (o : Option X) (b : Bool) (f g : F) → cond (is_some o) (Some f) (cond b (Some g) None) ≡ None → (o ≡ None) × (b ≡ false)
no-fault None true f g h = cc
no-fault None false f g h = (refl, refl)
no-fault (Some x) b f g h = cc

-- a name that isn't refused isn't there
pub refusal-free : {T : Type 0} (limit : ℕ) (name : List ℕ) (entries : List (Named T)) → refusal limit name entries ≡ None → place_of name entries ≡ None
refusal-free limit name entries h = (no-fault (place_of name entries) (nat_le limit (length entries)) _ _ h).0

-- a list to which one may be added is within its limit with one more
pub refusal-room : {T : Type 0} (limit : ℕ) (name : List ℕ) (entries : List (Named T)) (entry : Named T) → refusal limit name entries ≡ None → length (entries ++ entry ∷ []) ≤ limit
refusal-room limit name entries entry h =
    let room : nat_le limit (length entries) ≡ false = (no-fault (place_of name entries) (nat_le limit (length entries)) _ _ h).1 in
    let one = length-append entries (entry ∷ []) in
    grind arith

-- names differ with one more that isn't there
pub HasOwnNames-more : {T : Type 0} (entries : List (Named T)) (entry : Named T) → HasOwnNames entries → place_of entry.name entries ≡ None → HasOwnNames (entries ++ entry ∷ [])
HasOwnNames-more entries entry own free =
    all_pairs_push (λ one other. one.name ≢ other.name) entries entry own
    (λ k d l e.
    let no : bytes_eq (get_or entries k d).name entry.name ≡ false = position-None (λ e. bytes_eq e.name entry.name) entries free k d l in
    let yes : bytes_eq (get_or entries k d).name entry.name ≡ true = (bytes_eq-Decides (get_or entries k d).name entry.name).1 e in
    cc)

-- the names of a list differ, and it is within a limit
pub record IsKept {T : Type 0} (limit : ℕ) (entries : List (Named T)) : Type 0 where
  pub named : HasOwnNames entries
  pub few : length entries ≤ limit

-- a list to which one was added, or that stayed as it was, is kept
pub IsKept-add : {T X E : Type 0} (result : Result X E) (limit : ℕ) (entry : Named T) (old new : List (Named T)) → IsKept limit old → OnOk result (new ≡ old ++ entry ∷ []) → OnOk result (refusal limit entry.name old ≡ None) → OnErr result (new ≡ old) → IsKept limit new
IsKept-add (Ok x) limit entry old new kept ok free err = rw ok (record {
  named = HasOwnNames-more old entry kept.named (refusal-free limit entry.name old free);
  few = refusal-room limit entry.name old entry free;
})
IsKept-add (Err e) limit entry old new kept ok free err = rw err kept

at-first : {X : Type 0} (xs : List X) (i n : ℕ) → cond (nat_lt i (length xs)) (Some i) None ≡ Some n → i ≡ n
at-first xs i n h = elim (nat_lt i (length xs)) as (λ b. cond b (Some i) None ≡ Some n → i ≡ n) [ true ↦ λ e. cc | false ↦ λ e. cc ] h

-- what stands under a name stands at its place
pub entry_of-place : {T : Type 0} (name : List ℕ) (entries : List (Named T)) (place : ℕ) → place_of name entries ≡ Some place → entry_of name entries ≡ slice_get entries place
entry_of-place name entries place h =
    let first = at-first entries (position_or_len (λ entry. bytes_eq entry.name name) entries) place h in
    rw (find_at (λ entry. bytes_eq entry.name name) entries, first) refl

-- the names of a front differ, and it is within the limit
pub IsKept-take : {T : Type 0} (limit n : ℕ) (entries : List (Named T)) → IsKept limit entries → IsKept limit (take n entries)
IsKept-take limit n entries kept = record {
  named = λ i j d less within.
      let front = length-take n entries in
      let here : j < n = omega arith in
      let whole : j < length entries = omega arith in
      let before : i < n = omega arith in
      rw (get_or-take n entries i d before, get_or-take n entries j d here) (kept.named i j d less whole);
  few = omega (arith, length-take n entries, kept.few);
}
