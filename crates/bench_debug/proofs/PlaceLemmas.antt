-- Lists that are taken back from their ends, and what stands at a place.
use Rattle.std.proofs.Common.{◌≡◌, ◌<◌, ◌≤◌, ◌+◌, ◌-◌, ◌++◌, ◌∷◌, ℕ, Bool, true, false, suc, List, [], Option, Some, refl, sym, ◌∙◌, ap, length, take, drop, filter, get_or, arith}
use Rattle.std.specs.Prelude.{nat_lt, reverse, slice_get, slice_index, unwrap_or}
use Rattle.std.proofs.Math.ListN.{get_or-eq_default}
use Rattle.std.proofs.Math.Seq.{drop-cons}
use Rattle.std.proofs.lemmas.Bool.Decides.{nat_tests}
use Rattle.std.proofs.lemmas.List.{get_or-reverse, get_or-take, length-reverse, length-take-le, take-append-drop, take-take}
use Rattle.std.proofs.lemmas.Option.{slice_get_within, unwrap_or-slice_get}

-- the last of those that are left where so many are taken off at the end
last_within : (xs : List ℕ) (k : ℕ) → k < length xs
    → slice_index (take (length xs - k) xs) (length (take (length xs - k) xs) - 1) ≡ slice_index (reverse xs) k
last_within xs k h =
    let len : length (take (length xs - k) xs) ≡ length xs - k = length-take-le (length xs - k) xs (omega arith) in
    let at : length xs - k - 1 ≡ length xs - 1 - k = omega arith in
    rw len
    (get_or-take (length xs - k) xs (length xs - k - 1) 0 (omega arith)
    ∙ ap (λ (i : ℕ). get_or xs i 0) at ∙ sym (get_or-reverse xs k 0 h))

last_past : (xs : List ℕ) (k : ℕ) → length xs ≤ k
    → slice_index (take (length xs - k) xs) (length (take (length xs - k) xs) - 1) ≡ slice_index (reverse xs) k
last_past xs k h =
    let none : length xs - k ≡ 0 = omega arith in
    let few : length (reverse xs) ≤ k = omega (arith, length-reverse xs) in
    rw none (sym (get_or-eq_default (reverse xs) 0 few))

pub last_left : (xs : List ℕ) (k : ℕ)
    → slice_index (take (length xs - k) xs) (length (take (length xs - k) xs) - 1) ≡ slice_index (reverse xs) k
last_left xs k = by (nat_lt k (length xs)) refl
  where
    by : (b : Bool) → nat_lt k (length xs) ≡ b
        → slice_index (take (length xs - k) xs) (length (take (length xs - k) xs) - 1) ≡ slice_index (reverse xs) k
    by true is = last_within xs k (grind (arith, nat_tests, is))
    by false is = last_past xs k (grind (arith, nat_tests, is))

-- one more is taken off
pub left_less : (xs : List ℕ) (k : ℕ)
    → take (length (take (length xs - k) xs) - 1) (take (length xs - k) xs) ≡ take (length xs - (k + 1)) xs
left_less xs k =
    let len : length (take (length xs - k) xs) ≡ length xs - k = length-take-le (length xs - k) xs (omega arith) in
    let less : length xs - k - 1 ≡ length xs - (k + 1) = omega arith in
    rw len (take-take (length xs - k - 1) (length xs - k) xs (omega arith) ∙ ap (λ (n : ℕ). take n xs) less)

-- what stands at a place, and behind it
pub drop_at : {X : Type 0} (xs : List X) (p : ℕ) (x : X) → slice_get xs p ≡ Some x → drop p xs ≡ x ∷ drop (p + 1) xs
drop_at {X} xs p x at =
    let here : get_or xs p x ≡ x = sym (unwrap_or-slice_get xs p x) ∙ ap (λ (o : Option X). unwrap_or o x) at in
    let next : suc p ≡ p + 1 = omega arith in
    drop-cons xs p x (slice_get_within xs p x at) ∙ ap (λ (y : X). y ∷ drop (suc p) xs) here ∙ ap (λ (n : ℕ). x ∷ drop n xs) next

pub split_at : {X : Type 0} (xs : List X) (p : ℕ) (x : X) → slice_get xs p ≡ Some x → xs ≡ take p xs ++ x ∷ drop (p + 1) xs
split_at {X} xs p x at = sym (take-append-drop p xs) ∙ ap (λ (ys : List X). take p xs ++ ys) (drop_at xs p x at)

pub length_front : {X : Type 0} (xs : List X) (p : ℕ) (x : X) → slice_get xs p ≡ Some x → length (take p xs) ≡ p
length_front xs p x at = let within : p < length xs = slice_get_within xs p x at in length-take-le p xs (omega arith)

-- a filter that passes nothing, and one more in front
pub filter_none : {X : Type 0} (p : X → Bool) (x : X) (xs : List X) → p x ≡ false → filter p xs ≡ [] → filter p (x ∷ xs) ≡ []
filter_none p x xs one none = rw one none
