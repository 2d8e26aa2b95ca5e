-- Lists of which each item is seen with those before it, and lists of which the first that passes is told.
use Rattle.std.proofs.Common.{◌≡◌, ◌+◌, ◌<◌, ℕ, suc, zero, Bool, true, false, List, [], ◌∷◌, ◌++◌, Some, None, append_assoc, arith, ap, get_or, length, refl, sym, take, ◌∙◌}
use Rattle.std.specs.Prelude.{◌==◌, ◌||◌, filter, map, not, slice_get}
use Rattle.std.specs.List.{list_any}
use Rattle.std.proofs.lemmas.Bool.{ne_eqb, or_left, or_parts, or_right}
use Rattle.std.proofs.lemmas.List.{append-nil, take_more}
use Rattle.bench_item.specs.Past.{any_after}

-- one that passes after those before it
pub any_after-some : {X : Type 0} (test : List X → X → Bool) (past xs : List X) (i : ℕ) (d : X) → i < length xs
    → test (past ++ take i xs) (get_or xs i d) ≡ true → any_after test past xs ≡ true
any_after-some test past [] i d within t = absurd (omega arith)
any_after-some test past (x ∷ xs) zero d within t = or_left (test past x) _ (ap (λ (ys : List _). test ys x) (sym (append-nil past)) ∙ t)
any_after-some test past (x ∷ xs) (suc i) d within t =
    or_right (test past x) (any_after test (past ++ x ∷ []) xs)
    (any_after-some test (past ++ x ∷ []) xs i d (omega arith) (ap (λ (ys : List _). test ys (get_or xs i d)) (append_assoc past (x ∷ []) (take i xs)) ∙ t))

-- one more that doesn't
any_after-push : {X : Type 0} (test : List X → X → Bool) (past xs : List X) (x : X) → any_after test past xs ≡ false
    → test (past ++ xs) x ≡ false → any_after test past (xs ++ x ∷ []) ≡ false
any_after-push test past [] x none t = rw (ap (λ (ys : List _). test ys x) (sym (append-nil past)) ∙ t) refl
any_after-push test past (y ∷ xs) x none t =
    let parts = or_parts (test past y) (any_after test (past ++ y ∷ []) xs) none in
    rw (parts.0)
    (any_after-push test (past ++ y ∷ []) xs x parts.1 (ap (λ (ys : List _). test ys x) (append_assoc past (y ∷ []) xs) ∙ t))

pub any_after-more : {X : Type 0} (test : List X → X → Bool) (xs : List X) (i : ℕ) (d : X) → i < length xs
    → any_after test [] (take i xs) ≡ false → test (take i xs) (get_or xs i d) ≡ false → any_after test [] (take (i + 1) xs) ≡ false
any_after-more test xs i d within none t = rw (take_more xs i d within) (any_after-push test [] (take i xs) (get_or xs i d) none t)

-- whether any passes is whether those that pass are not none
any_there : {X : Type 0} (p : X → Bool) (x : X) (xs : List X) (b : Bool) → p x ≡ b → list_any p xs ≡ not (length (filter p xs) == 0)
    → list_any p (x ∷ xs) ≡ not (length (filter p (x ∷ xs)) == 0)
any_there p x xs true is rest = rw (is) (ap not (sym (ne_eqb (suc (length (filter p xs))) 0 (λ e. omega (arith, e)))))
any_there p x xs false is rest = rw (is) rest

pub any-filter : {X : Type 0} (p : X → Bool) (xs : List X) → list_any p xs ≡ not (length (filter p xs) == 0)
any-filter p [] = refl
any-filter p (x ∷ xs) = any_there p x xs (p x) refl (any-filter p xs)

pub any-map : {X Y : Type 0} (p : Y → Bool) (f : X → Y) (xs : List X) → list_any p (map f xs) ≡ list_any (λ x. p (f x)) xs
any-map p f [] = refl
any-map p f (x ∷ xs) = ap (λ b. p (f x) || b) (any-map p f xs)

-- the first of two lists joined
pub first-of_left : {X : Type 0} (xs ys : List X) (x : X) → slice_get xs 0 ≡ Some x → slice_get (xs ++ ys) 0 ≡ Some x
first-of_left [] ys x h = absurd cc
first-of_left (z ∷ xs) ys x h = h

pub first-of_right : {X : Type 0} (xs ys : List X) → slice_get xs 0 ≡ None → slice_get (xs ++ ys) 0 ≡ slice_get ys 0
first-of_right [] ys h = refl
first-of_right (z ∷ xs) ys h = absurd cc

-- nothing is first of nothing alone
pub none-first : {X : Type 0} (xs : List X) → slice_get xs 0 ≡ None → xs ≡ []
none-first [] h = refl
none-first (x ∷ xs) h = absurd cc
