-- Which values stay where the zeros at the end are left out.
use Rattle.std.proofs.Common.{◌≡◌, ◌<◌, ℕ, ◌+◌, ◌==◌, Bool, true, false, List, [], ◌∷◌, ◌++◌, length, take, get_or, refl, ap, ◌∙◌}
use Rattle.std.specs.Prelude.{◌&&◌}
use Rattle.std.specs.List.{list_all}
use Rattle.std.proofs.lemmas.Bool.{eq-eqb, ne_eqb}
use Rattle.std.proofs.lemmas.List.{take_more}
use Rattle.event_text.specs.Deeds.{without_last_zeros}

and_assoc : (a b c : Bool) → (a && (b && c)) ≡ ((a && b) && c)
and_assoc true b c = refl
and_assoc false b c = refl

and_right : (a : Bool) → (a && true) ≡ a
and_right true = refl
and_right false = refl

and_none : (a : Bool) → (a && false) ≡ false
and_none true = refl
and_none false = refl

zeros-push : (xs : List ℕ) (v : ℕ) → list_all (λ x. x == 0) (xs ++ v ∷ []) ≡ (list_all (λ x. x == 0) xs && (v == 0))
zeros-push [] v = and_right (v == 0)
zeros-push (x ∷ xs) v = rw (zeros-push xs v) (and_assoc (x == 0) (list_all (λ y. y == 0) xs) (v == 0))

-- a zero behind values is left out
zero-push : (xs : List ℕ) (v : ℕ) → (v == 0) ≡ true → without_last_zeros (xs ++ v ∷ []) ≡ without_last_zeros xs
zero-push [] v zero = rw zero refl
zero-push (x ∷ xs) v zero =
    let same : list_all (λ y. y == 0) (xs ++ v ∷ []) ≡ list_all (λ y. y == 0) xs = zeros-push xs v ∙ ap (λ b. list_all (λ y. y == 0) xs && b) zero ∙ and_right _ in
    rw (same, zero-push xs v zero) refl

-- another value behind values keeps all of them
value-push : (xs : List ℕ) (v : ℕ) → (v == 0) ≡ false → without_last_zeros (xs ++ v ∷ []) ≡ xs ++ v ∷ []
value-push [] v some = rw some refl
value-push (x ∷ xs) v some =
    let some_value : list_all (λ y. y == 0) (xs ++ v ∷ []) ≡ false = zeros-push xs v ∙ ap (λ b. list_all (λ y. y == 0) xs && b) some ∙ and_none _ in
    rw (some_value, and_none (x == 0), value-push xs v some) refl

pub without_last_zeros-zero : (xs : List ℕ) (i : ℕ) → i < length xs → get_or xs i 0 ≡ 0 → without_last_zeros (take (i + 1) xs) ≡ without_last_zeros (take i xs)
without_last_zeros-zero xs i below zero = rw (take_more xs i 0 below) (zero-push (take i xs) (get_or xs i 0) (eq-eqb _ _ zero))

pub without_last_zeros-value : (xs : List ℕ) (i : ℕ) → i < length xs → (get_or xs i 0 ≡ 0 → ⊥) → without_last_zeros (take (i + 1) xs) ≡ take (i + 1) xs
without_last_zeros-value xs i below some = rw (take_more xs i 0 below) (value-push (take i xs) (get_or xs i 0) (ne_eqb _ _ some))
