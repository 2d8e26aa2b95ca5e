-- The distinct items of a list, and their places, with one more item behind it.
use Rattle.std.proofs.Common.{◌≡◌, ◌+◌, List, [], ◌∷◌, ◌++◌, Bool, true, false, refl, sym, ◌∙◌, ap, subst}
use Rattle.std.specs.Prelude.{filter, not, cond, if◌then◌else◌}
use Rattle.std.specs.List.{list_any, AllByRecursion as Each}
use Rattle.std.proofs.lemmas.Bool.{false≢true}
use Rattle.std.proofs.lemmas.List.{append-nil}
use Rattle.std.proofs.lemmas.List.Elements.{filter-append}
use Rattle.std.proofs.lemmas.Map.Views.{any-filter_same}
use Rattle.bench_item.specs.Past.{distinct}

-- the items with one more, unless one that is the same is there
abbrev pub with_new : {X : Type 0} → (X → X → Bool) → X → List X → List X
with_new is_same k xs = if list_any (λ y. is_same y k) xs then xs else xs ++ k ∷ []

-- no two items are the same
abbrev pub AreApart : {X : Type 0} → (X → X → Bool) → List X → Type 0
AreApart is_same [] = Unit {0}
AreApart is_same (x ∷ xs) = Each (λ y. is_same x y ≡ false) xs × AreApart is_same xs

-- a filter keeps what holds of each
pub Each-filter : {X : Type 0} (P : X → Type 0) (p : X → Bool) (xs : List X) → Each P xs → Each P (filter p xs)
Each-filter P p [] h = tt
Each-filter {X} P p (x ∷ xs) h = by (Each-filter P p xs h.1) (p x) refl
  where
    by : Each P (filter p xs) → (b : Bool) → p x ≡ b → Each P (filter p (x ∷ xs))
    by rest true is = rw is (h.0, rest)
    by rest false is = rw is rest

-- what a filter keeps passes
pub Each-passes : {X : Type 0} (p : X → Bool) (xs : List X) → Each (λ x. p x ≡ true) (filter p xs)
Each-passes p [] = tt
Each-passes {X} p (x ∷ xs) = by (Each-passes p xs) (p x) refl
  where
    by : Each (λ y. p y ≡ true) (filter p xs) → (b : Bool) → p x ≡ b → Each (λ y. p y ≡ true) (filter p (x ∷ xs))
    by rest true is = subst (λ b. Each (λ y. p y ≡ true) (cond b (x ∷ filter p xs) (filter p xs))) (sym is) (is, rest)
    by rest false is = subst (λ b. Each (λ y. p y ≡ true) (cond b (x ∷ filter p xs) (filter p xs))) (sym is) rest

pub Each-weaker : {X : Type 0} (P Q : X → Type 0) → ((x : X) → P x → Q x) → (xs : List X) → Each P xs → Each Q xs
Each-weaker P Q f [] h = tt
Each-weaker P Q f (x ∷ xs) h = (f x h.0, Each-weaker P Q f xs h.1)

pub Each-append : {X : Type 0} (P : X → Type 0) (xs ys : List X) → Each P xs → Each P ys → Each P (xs ++ ys)
Each-append P [] ys h k = k
Each-append P (x ∷ xs) ys h k = (h.0, Each-append P xs ys h.1 k)

pub Each-distinct : {X : Type 0} (is_same : X → X → Bool) (P : X → Type 0) (xs : List X) → Each P xs → Each P (distinct is_same xs)
Each-distinct is_same P [] h = tt
Each-distinct is_same P (x ∷ xs) h = (h.0, Each-filter P (λ y. not (is_same x y)) (distinct is_same xs) (Each-distinct is_same P xs h.1))

not_true : (b : Bool) → not b ≡ true → b ≡ false
not_true true h = absurd (false≢true h)
not_true false h = refl

apart-filter : {X : Type 0} (is_same : X → X → Bool) (p : X → Bool) (xs : List X) → AreApart is_same xs → AreApart is_same (filter p xs)
apart-filter is_same p [] h = tt
apart-filter {X} is_same p (x ∷ xs) h = by (apart-filter is_same p xs h.1) (p x) refl
  where
    by : AreApart is_same (filter p xs) → (b : Bool) → p x ≡ b → AreApart is_same (filter p (x ∷ xs))
    by rest true is = rw is (Each-filter (λ y. is_same x y ≡ false) p xs h.0, rest)
    by rest false is = rw is rest

pub distinct_apart : {X : Type 0} (is_same : X → X → Bool) (xs : List X) → AreApart is_same (distinct is_same xs)
distinct_apart is_same [] = tt
distinct_apart {X} is_same (x ∷ xs) =
    (Each-weaker (λ y. not (is_same x y) ≡ true) (λ y. is_same x y ≡ false) (λ y h. not_true (is_same x y) h) (filter (λ y. not (is_same x y)) (distinct is_same xs)) (Each-passes (λ y. not (is_same x y)) (distinct is_same xs)), apart-filter is_same (λ y. not (is_same x y)) (distinct is_same xs) (distinct_apart is_same xs))

-- one more item
pub distinct-snoc : {X : Type 0} (is_same : X → X → Bool) (sound : (x y : X) → is_same x y ≡ true → x ≡ y) (k : X) (xs : List X) → distinct is_same (xs ++ k ∷ []) ≡ with_new is_same k (distinct is_same xs)
distinct-snoc is_same sound k [] = refl
distinct-snoc {X} is_same sound k (x ∷ xs) = ap (λ ys. x ∷ filter others ys) (distinct-snoc is_same sound k xs) ∙ by (is_same x k) refl (list_any at_k ds) refl
  where
    others : X → Bool
    others y = not (is_same x y)

    at_k : X → Bool
    at_k y = is_same y k

    ds : List X
    ds = distinct is_same xs

    keeps : is_same x k ≡ false → (y : X) → is_same y k ≡ true → others y ≡ true
    keeps apart y same = ap not (ap (is_same x) (sound y k same) ∙ apart)

    by : (b : Bool) → is_same x k ≡ b → (c : Bool) → list_any at_k ds ≡ c → x ∷ filter others (with_new is_same k ds) ≡ with_new is_same k (x ∷ filter others ds)
    by true same true there = rw (there, same) refl
    by true same false there = rw (there, same) (ap (λ ys. x ∷ ys) (filter-append others ds (k ∷ []) ∙ rw same (append-nil (filter others ds))))
    by false apart true there = rw (there, apart, any-filter_same at_k others true (keeps apart) ds, there) refl
    by false apart false there = rw (there, apart, any-filter_same at_k others true (keeps apart) ds, there) (ap (λ ys. x ∷ ys) (filter-append others ds (k ∷ []) ∙ rw apart refl))
