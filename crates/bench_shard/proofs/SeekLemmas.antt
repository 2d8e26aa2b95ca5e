-- A name that is looked for one by one.
use Rattle.std.proofs.Common.{◌≡◌, ◌+◌, ◌<◌, ◌≤◌, ℕ, zero, suc, List, [], ◌∷◌, length, Bool, true, false, Option, Some, None, refl, ◌∙◌, ap, arith}
use Rattle.std.specs.Prelude.{cond, nat_lt, slice_get}
use Rattle.std.specs.List.{position, position_or_len}
use Rattle.std.specs.Option.{option_map_or}
use Rattle.std.proofs.lemmas.Bool.{false≢true}
use Rattle.std.proofs.lemmas.Bool.Decides.{nat_tests}
use Rattle.std.proofs.lemmas.List.Sums.{fails_before_first, passes_at_first}
use Rattle.std.proofs.lemmas.Option.{get_or_from_slice_get, slice_get_within}

-- whether the item at a place passes
abbrev passes_at : {X : Type 0} → (X → Bool) → List X → ℕ → Bool
passes_at p xs k = option_map_or p (slice_get xs k) false

there : {X : Type 0} (p : X → Bool) (xs : List X) (k : ℕ) → passes_at p xs k ≡ true → (x : X) × (slice_get xs k ≡ Some x) × (p x ≡ true)
there {X} p xs k passes = by (slice_get xs k) refl passes
  where
    by : (o : Option X) → slice_get xs k ≡ o → option_map_or p o false ≡ true → (x : X) × (slice_get xs k ≡ Some x) × (p x ≡ true)
    by None is h = absurd (false≢true h)
    by (Some x) is h = (x, is, h)

-- something stands within a list
none_there : {X : Type 0} (xs : List X) (k : ℕ) → k < length xs → slice_get xs k ≡ None → ⊥
none_there [] k less e = absurd (omega (arith, less))
none_there (x ∷ xs) zero less e = absurd cc
none_there (x ∷ xs) (suc k) less e = none_there xs k (omega (arith, less)) e

-- the first place that passes is behind one that doesn't
pub seek-next : {X : Type 0} (p : X → Bool) (xs : List X) (k : ℕ) → k ≤ position_or_len p xs → k < length xs → passes_at p xs k ≡ false → k + 1 ≤ position_or_len p xs
seek-next {X} p xs k before within fails = by (slice_get xs k) refl fails
  where
    by : (o : Option X) → slice_get xs k ≡ o → option_map_or p o false ≡ false → k + 1 ≤ position_or_len p xs
    by None is h = absurd (none_there xs k within is)
    by (Some x) is h = grind (arith, before, within, h, get_or_from_slice_get xs k x x is, passes_at_first p xs x)

-- the place that passes, before which none does, is the first
pub seek-found : {X : Type 0} (p : X → Bool) (xs : List X) (k : ℕ) → k ≤ position_or_len p xs → passes_at p xs k ≡ true → position p xs ≡ Some k
seek-found p xs k before passes =
    let t = there p xs k passes in
    let less = slice_get_within xs k t.0 t.1 in
    let here = get_or_from_slice_get xs k t.0 t.0 t.1 in
    let first : position_or_len p xs ≡ k = grind (arith, before, less, here, t.2, fails_before_first p xs k t.0) in
    let test : nat_lt k (length xs) ≡ true = grind (arith, nat_tests, less) in
    ap (λ n. cond (nat_lt n (length xs)) (Some n) None) first ∙ ap (λ b. cond b (Some k) None) test

-- where none passes there is none
pub seek-none : {X : Type 0} (p : X → Bool) (xs : List X) (k : ℕ) → k ≤ position_or_len p xs → length xs ≤ k → position p xs ≡ None
seek-none p xs k before all =
    let test : nat_lt (position_or_len p xs) (length xs) ≡ false = grind (arith, nat_tests, before, all) in
    ap (λ b. cond b (Some (position_or_len p xs)) None) test
