-- What holds at each place of a list, where an item is changed, and lists that are the same at each place.
use Rattle.std.proofs.Common.{◌≡◌, ◌+◌, ℕ, List, [], ◌∷◌, Some, refl, sym, ◌∙◌, ap, subst, arith, length, suc, zero}
use Rattle.std.specs.Prelude.{slice_set, ◌≢◌}
use Rattle.std.specs.List.{slice_get}
use Rattle.bench_views.specs.Stored.{EachAt}

-- items by their places, the first of which is n
abbrev pub map_at : {X Y : Type 0} → (ℕ → X → Y) → ℕ → List X → List Y
map_at f n [] = []
map_at f n (x ∷ xs) = f n x ∷ map_at f (suc n) xs

pub some-same : {X : Type 0} (a b : X) → Some a ≡ Some b → a ≡ b
some-same a b e = grind (arith, e)

plus_none : (n : ℕ) → n + 0 ≡ n
plus_none n = omega arith

plus_next : (n k : ℕ) → n + suc k ≡ suc n + k
plus_next n k = omega arith

not_zero : (k : ℕ) → suc k ≢ 0
not_zero k e = absurd (omega (arith, e))

next_differs : (k i : ℕ) → suc k ≢ suc i → k ≢ i
next_differs k i h e = h (ap suc e)

suc_differs : (k i : ℕ) → k ≢ i → suc k ≢ suc i
suc_differs k i h e = h (omega (arith, e))

-- lists with the same items at all places are one
pub same-at : {X : Type 0} (xs ys : List X) → ((k : ℕ) → slice_get xs k ≡ slice_get ys k) → xs ≡ ys
same-at [] [] h = refl
same-at [] (y ∷ ys) h = absurd (grind (arith, h 0))
same-at (x ∷ xs) [] h = absurd (grind (arith, h 0))
same-at (x ∷ xs) (y ∷ ys) h = ap (λ z. z ∷ xs) (some-same x y (h 0)) ∙ ap (λ zs. y ∷ zs) (same-at xs ys (λ k. h (suc k)))

-- a fact of each item behind the first
pub each-tail : {X : Type 0} (P : ℕ → X → Type 0) (x : X) (xs : List X) → EachAt P (x ∷ xs) → EachAt (λ k y. P (suc k) y) xs
each-tail P x xs h k y is = h (suc k) y is

-- items that are changed by their places
pub each-map_at : {X Y : Type 0} (P : ℕ → X → Type 0) (Q : ℕ → Y → Type 0) (f : ℕ → X → Y) (n : ℕ) (xs : List X) → ((k : ℕ) (x : X) → P k x → Q k (f (n + k) x)) → EachAt P xs → EachAt Q (map_at f n xs)
each-map_at P Q f n [] go h k y is = absurd (grind (arith, is))
each-map_at P Q f n (x ∷ xs) go h zero y is = subst (Q 0) (ap (λ m. f m x) (plus_none n) ∙ some-same (f n x) y is) (go 0 x (h 0 x refl))
each-map_at P Q f n (x ∷ xs) go h (suc k) y is =
    each-map_at (λ j z. P (suc j) z) (λ j z. Q (suc j) z) f (suc n) xs
    (λ j z p. subst (λ m. Q (suc j) (f m z)) (plus_next n j) (go (suc j) z p)) (each-tail P x xs h) k y is

pub length-map_at : {X Y : Type 0} (f : ℕ → X → Y) (n : ℕ) (xs : List X) → length (map_at f n xs) ≡ length xs
length-map_at f n [] = refl
length-map_at f n (x ∷ xs) = ap suc (length-map_at f (suc n) xs)

-- a function that changes nothing
map_at-none : {X : Type 0} (g : ℕ → X → X) (m : ℕ) (zs : List X) → EachAt (λ k z. g (m + k) z ≡ z) zs → map_at g m zs ≡ zs
map_at-none g m [] h = refl
map_at-none g m (z ∷ zs) h =
    ap (λ w. w ∷ map_at g (suc m) zs) (ap (λ j. g j z) (sym (plus_none m)) ∙ h 0 z refl)
    ∙ ap (λ ws. z ∷ ws) (map_at-none g (suc m) zs (λ k w at. ap (λ j. g j w) (sym (plus_next m k)) ∙ h (suc k) w at))

-- a list in which the function changes one place alone is the list with that place set
pub map_at-set : {X : Type 0} (f : ℕ → X → X) (n i : ℕ) (xs : List X) (x new : X) → slice_get xs i ≡ Some x → f (n + i) x ≡ new → EachAt (λ k y. (k ≢ i) → f (n + k) y ≡ y) xs → map_at f n xs ≡ slice_set xs i new
map_at-set f n i [] x new is becomes others = absurd (grind (arith, is))
map_at-set f n zero (y ∷ ys) x new is becomes others =
    ap (λ z. z ∷ map_at f (suc n) ys) (ap (f n) (some-same y x is) ∙ ap (λ m. f m x) (sym (plus_none n)) ∙ becomes)
    ∙ ap (λ zs. new ∷ zs) (map_at-none f (suc n) ys (λ k z at. ap (λ m. f m z) (sym (plus_next n k)) ∙ others (suc k) z at (not_zero k)))
map_at-set f n (suc i) (y ∷ ys) x new is becomes others =
    ap (λ z. z ∷ map_at f (suc n) ys) (ap (λ m. f m y) (sym (plus_none n)) ∙ others 0 y refl (λ e. not_zero i (sym e)))
    ∙ ap (λ zs. y ∷ zs) (map_at-set f (suc n) i ys x new is (ap (λ m. f m x) (sym (plus_next n i)) ∙ becomes) (λ k z at differs. ap (λ m. f m z) (sym (plus_next n k)) ∙ others (suc k) z at (suc_differs k i differs)))
