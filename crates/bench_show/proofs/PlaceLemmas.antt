-- What stands at a place of a list, and the texts of what stands before it.
use Rattle.std.proofs.Common.{◌≡◌, ◌<◌, ◌+◌, ◌-◌, ◌++◌, ◌∷◌, ℕ, Bool, false, suc, List, [], Option, Some, None, sym, ◌∙◌, ap, append-nil, length, take, drop, filter, get_or, arith}
use Rattle.std.specs.Prelude.{slice_get, unwrap_or}
use Rattle.std.specs.List.{enumerate_from, flat_map}
use Rattle.std.proofs.Math.Seq.{drop-cons}
use Rattle.std.proofs.lemmas.Grind.{flat_map-append}
use Rattle.std.proofs.lemmas.List.{drop_all, length-take-le, take-append-drop, take_more}
use Rattle.std.proofs.lemmas.List.FromFn.{get_or-enumerate_from, length-enumerate_from}
use Rattle.std.proofs.lemmas.Option.{slice_get-get_or, slice_get_within, unwrap_or-slice_get}

-- there is something at each place within
pub entry_at : {X : Type 0} (xs : List X) (p : ℕ) → p < length xs → (x : X) × (slice_get xs p ≡ Some x)
entry_at [] p h = absurd (omega (arith, h))
entry_at (x ∷ xs) p h = (get_or (x ∷ xs) p x, slice_get-get_or (x ∷ xs) p x h)

pub none_within : {X : Type 0} (xs : List X) (p : ℕ) → p < length xs → None ≡ slice_get xs p → ⊥
none_within {X} xs p h none =
    let there = entry_at xs p h in
    let found : slice_get xs p ≡ Some there.0 = there.1 in
    absurd cc

pub at_is : {X : Type 0} (xs : List X) (p : ℕ) (x : X) → slice_get xs p ≡ Some x → get_or xs p x ≡ x
at_is {X} xs p x at = sym (unwrap_or-slice_get xs p x) ∙ ap (λ (o : Option X). unwrap_or o x) at

pub drop_at : {X : Type 0} (xs : List X) (p : ℕ) (x : X) → slice_get xs p ≡ Some x → drop p xs ≡ x ∷ drop (p + 1) xs
drop_at {X} xs p x at =
    let next : suc p ≡ p + 1 = omega arith in
    drop-cons xs p x (slice_get_within xs p x at) ∙ ap (λ (y : X). y ∷ drop (suc p) xs) (at_is xs p x at)
    ∙ ap (λ (n : ℕ). x ∷ drop n xs) next

pub split_at : {X : Type 0} (xs : List X) (p : ℕ) (x : X) → slice_get xs p ≡ Some x → xs ≡ take p xs ++ x ∷ drop (p + 1) xs
split_at {X} xs p x at = sym (take-append-drop p xs) ∙ ap (λ (ys : List X). take p xs ++ ys) (drop_at xs p x at)

pub length_front : {X : Type 0} (xs : List X) (p : ℕ) (x : X) → slice_get xs p ≡ Some x → length (take p xs) ≡ p
length_front xs p x at = let within : p < length xs = slice_get_within xs p x at in length-take-le p xs (omega arith)

pub back_one : (place : ℕ) → 0 < place → place - 1 + 1 ≡ place
back_one place some = omega arith

-- a filter passes none behind the last, and none behind a place where it passes none there
pub none_past : {X : Type 0} (p : X → Bool) (xs : List X) (place : ℕ) → place ≡ length xs → filter p (drop place xs) ≡ []
none_past p xs place is = ap (filter p) (drop_all place xs (omega (arith, is)))

pub filter_none : {X : Type 0} (p : X → Bool) (x : X) (xs : List X) → p x ≡ false → filter p xs ≡ [] → filter p (x ∷ xs) ≡ []
filter_none p x xs one none = rw one none

pub none_before : {X : Type 0} (p : X → Bool) (xs : List X) (place : ℕ) (x : X) → 0 < place → slice_get xs (place - 1) ≡ Some x
    → p x ≡ false → filter p (drop place xs) ≡ [] → filter p (drop (place - 1) xs) ≡ []
none_before {X} p xs place x some at missed none =
    ap (filter p) (drop_at xs (place - 1) x at ∙ ap (λ (n : ℕ). x ∷ drop n xs) (back_one place some))
    ∙ filter_none p x (drop place xs) missed none

-- one more of what is numbered from a number on
pub numbered_more : {X : Type 0} (f : (ℕ × X) → List ℕ) (from : ℕ) (xs : List X) (p : ℕ) (x : X) → slice_get xs p ≡ Some x
    → flat_map f (take (p + 1) (enumerate_from from xs)) ≡ flat_map f (take p (enumerate_from from xs)) ++ f (from + p, x)
numbered_more {X} f from xs p x at =
    let within : p < length xs = slice_get_within xs p x at in
    let inside : p < length (enumerate_from from xs) = rw (length-enumerate_from from xs) within in
    let here : get_or (enumerate_from from xs) p (0, x) ≡ (from + p, x) =
    get_or-enumerate_from from xs p (0, x) within ∙ ap (λ (y : X). (from + p, y)) (at_is xs p x at) in
    ap (flat_map f) (take_more (enumerate_from from xs) p (0, x) inside)
    ∙ flat_map-append f (take p (enumerate_from from xs)) (get_or (enumerate_from from xs) p (0, x) ∷ [])
    ∙ ap (λ l. flat_map f (take p (enumerate_from from xs)) ++ l) (append-nil (f (get_or (enumerate_from from xs) p (0, x))) ∙ ap f here)
