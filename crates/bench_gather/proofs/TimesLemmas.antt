-- How often numbers stand in lists, and lists that rise.
use Rattle.std.proofs.Common.{◌≡◌, ◌≢◌, ◌∙◌, ◌+◌, ◌<◌, ◌≤◌, ℕ, zero, suc, List, [], ◌∷◌, ◌++◌, Bool, true, false}
use Rattle.std.proofs.Common.{length}
use Rattle.std.proofs.Common.{get_or, take, refl, ap, sym, arith, inl, inr}
use Rattle.std.specs.Prelude.{AllPairs, cond, filter, flat_map, nat_eq, slice_index}
use Rattle.std.specs.List.Sorted.{IsStrictlyIncreasing}
use Rattle.std.proofs.lemmas.Bool.{cases_Bool, cases_eq, cond-true, cond-false, eq-eqb, ne_eqb}
use Rattle.std.proofs.lemmas.List.{take_more}
use Rattle.std.proofs.lemmas.List.Concat.{flat_map-append}
use Rattle.std.proofs.lemmas.List.Kept.{AllPairs-cons}
use Rattle.std.proofs.lemmas.List.Elements.{All-from_get_or}

abbrev pub one_if : Bool → ℕ → ℕ
one_if b n = cond b n 0

-- how often x stands in a list
abbrev pub times : ℕ → List ℕ → ℕ
times x [] = 0
times x (y ∷ ys) = one_if (nat_eq y x) 1 + times x ys

pub times-append : (x : ℕ) (ys zs : List ℕ) → times x (ys ++ zs) ≡ times x ys + times x zs
times-append x [] zs = omega arith
times-append x (y ∷ ys) zs = let rest = times-append x ys zs in omega (arith, rest)

-- one that stands at a place is there
pub times-there : (ys : List ℕ) (k : ℕ) → k < length ys → 1 ≤ times (slice_index ys k) ys
times-there [] k l = absurd (omega (arith, l))
times-there (y ∷ ys) zero l =
    let here : one_if (nat_eq y y) 1 ≡ 1 = cond-true (nat_eq y y) 1 0 (eq-eqb y y refl) in omega (arith, here)
times-there (y ∷ ys) (suc k) l =
    let rest = times-there ys k (omega (arith, l)) in omega (arith, rest)

-- numbers of which none stands there twice differ
times-none : (x : ℕ) (ys : List ℕ) → times x ys ≡ 0 → (k : ℕ) → k < length ys → x ≢ slice_index ys k
times-none x ys none k l e =
    let there = times-there ys k l in
    let same = ap (λ y. times y ys) e in
    omega (arith, none, there, same)

pub apart-once : (ys : List ℕ) → ((x : ℕ) → times x ys ≤ 1) → AllPairs (λ one other. one ≢ other) ys
apart-once [] once = λ i j d l within. absurd (omega (arith, within))
apart-once (y ∷ ys) once =
    let here : one_if (nat_eq y y) 1 ≡ 1 = cond-true (nat_eq y y) 1 0 (eq-eqb y y refl) in
    let all = once y in
    AllPairs-cons (λ one other. one ≢ other) y ys
    (All-from_get_or (λ other. y ≢ other) ys 0 (λ k l. times-none y ys (omega (arith, all, here)) k l))
    (apart-once ys (λ x. let more = once x in omega (arith, more)))

pub once-apart : (ys : List ℕ) → AllPairs (λ one other. one ≢ other) ys → (x : ℕ) → times x ys ≤ 1
once-apart [] apart x = omega arith
once-apart (y ∷ ys) apart x =
    let rest : AllPairs (λ one other. one ≢ other) ys =
    λ i j d l within. apart (suc i) (suc j) d (omega (arith, l)) (omega (arith, within)) in
    let few = once-apart ys rest x in
    elim (cases_eq y x) [
      | inl e ↦
          let none : times x ys ≡ 0 =
          gone x ys (λ k l same. apart 0 (suc k) 0 (omega arith) (omega (arith, l)) (e ∙ same)) in
          let one : one_if (nat_eq y x) 1 ≡ 1 = cond-true (nat_eq y x) 1 0 (eq-eqb y x e) in
          omega (arith, none, one)
      | inr other ↦
          let not_one : one_if (nat_eq y x) 1 ≡ 0 = cond-false (nat_eq y x) 1 0 (ne_eqb y x other) in
          omega (arith, few, not_one)
    ]
  where
    gone : (x : ℕ) (zs : List ℕ) → ((k : ℕ) → k < length zs → x ≡ slice_index zs k → ⊥) → times x zs ≡ 0
    gone x [] none = refl
    gone x (z ∷ zs) none =
        let rest = gone x zs (λ k l e. none (suc k) (omega (arith, l)) e) in
        let here : one_if (nat_eq z x) 1 ≡ 0 =
        cond-false (nat_eq z x) 1 0 (ne_eqb z x (λ e. none 0 (omega arith) (sym e))) in
        omega (arith, rest, here)

-- the sum of the first n
abbrev pub total : (ℕ → ℕ) → ℕ → ℕ
total f zero = 0
total f (suc n) = total f n + f n

pub total-add : (f g : ℕ → ℕ) (n : ℕ) → total (λ q. f q + g q) n ≡ total f n + total g n
total-add f g zero = refl
total-add f g (suc n) = let rest = total-add f g n in omega (arith, rest)

pub total-same : (f g : ℕ → ℕ) (n : ℕ) → ((q : ℕ) → q < n → f q ≡ g q) → total f n ≡ total g n
total-same f g zero same = refl
total-same f g (suc n) same =
    let rest = total-same f g n (λ q l. same q (omega (arith, l))) in
    let this = same n (omega arith) in
    omega (arith, rest, this)

pub total-one : (f : ℕ → ℕ) (n q : ℕ) → q < n → f q ≤ total f n
total-one f zero q l = absurd (omega (arith, l))
total-one f (suc n) q l =
    elim (cases_eq q n) [
      | inl e ↦ let same = ap f e in omega (arith, same)
      | inr other ↦ let rest = total-one f n q (omega (arith, l, other)) in omega (arith, rest)
    ]

pub total-two : (f : ℕ → ℕ) (n p q : ℕ) → p ≢ q → p < n → q < n → f p + f q ≤ total f n
total-two f zero p q apart l m = absurd (omega (arith, l))
total-two f (suc n) p q apart l m =
    elim (cases_eq p n) [
      | inl e ↦
          let same = ap f e in
          let rest = total-one f n q (omega (arith, m, apart, e)) in
          omega (arith, same, rest)
      | inr other ↦
          elim (cases_eq q n) [
            | inl e ↦
                let same = ap f e in
                let rest = total-one f n p (omega (arith, l, other)) in
                omega (arith, same, rest)
            | inr behind ↦
                let rest = total-two f n p q apart (omega (arith, l, other)) (omega (arith, m, behind)) in
                omega (arith, rest)
          ]
    ]

-- of numbers of which one counts at most
total-none : (b : ℕ → Bool) (a n : ℕ) → ((q : ℕ) → q < n → b q ≡ false) → total (λ q. one_if (b q) a) n ≡ 0
total-none b a zero none = refl
total-none b a (suc n) none =
    let rest = total-none b a n (λ q l. none q (omega (arith, l))) in
    let this : one_if (b n) a ≡ 0 = cond-false (b n) a 0 (none n (omega arith)) in
    omega (arith, rest, this)

is_false : (b : Bool) → (b ≡ true → ⊥) → b ≡ false
is_false true other = absurd (other refl)
is_false false other = refl

total-once : (b : ℕ → Bool) (a n : ℕ) → ((p q : ℕ) → b p ≡ true → b q ≡ true → p ≡ q)
    → total (λ q. one_if (b q) a) n ≤ a
total-once b a zero one = omega arith
total-once b a (suc n) one =
    elim (cases_Bool (b n)) [
      | inl here ↦
          let rest = total-none b a n
          (λ q l. is_false (b q) (λ there. let e = one q n there here in omega (arith, e, l))) in
          let this : one_if (b n) a ≡ a = cond-true (b n) a 0 here in
          omega (arith, rest, this)
      | inr other ↦
          let rest = total-once b a n one in
          let this : one_if (b n) a ≡ 0 = cond-false (b n) a 0 other in
          omega (arith, rest, this)
    ]

-- what stands in the parts of a list, of which each element is in one at most, stands in the list
times-cond : {A : Type 0} (x : ℕ) (g : A → List ℕ) (b : Bool) (y : A) (ys : List A)
    → times x (flat_map g (cond b (y ∷ ys) ys)) ≡ one_if b (times x (g y)) + times x (flat_map g ys)
times-cond x g true y ys = times-append x (g y) (flat_map g ys)
times-cond x g false y ys = omega arith

pub total-parts : {A : Type 0} (x n : ℕ) (g : A → List ℕ) (p : ℕ → A → Bool)
    → ((y : A) (q r : ℕ) → p q y ≡ true → p r y ≡ true → q ≡ r) → (ys : List A)
    → total (λ q. times x (flat_map g (filter (p q) ys))) n ≤ times x (flat_map g ys)
total-parts x n g p one [] = let none = total-zero n in omega (arith, none)
  where
    total-zero : (k : ℕ) → total (λ q. 0) k ≡ 0
    total-zero zero = refl
    total-zero (suc k) = let rest = total-zero k in omega (arith, rest)
total-parts x n g p one (y ∷ ys) =
    let rest = total-parts x n g p one ys in
    let here = total-once (λ q. p q y) (times x (g y)) n (λ q r. one y q r) in
    let split =
    total-same (λ q. times x (flat_map g (filter (p q) (y ∷ ys))))
    (λ q. one_if (p q y) (times x (g y)) + times x (flat_map g (filter (p q) ys))) n
    (λ q l. times-cond x g (p q y) y (filter (p q) ys)) in
    let sum = total-add (λ q. one_if (p q y) (times x (g y))) (λ q. times x (flat_map g (filter (p q) ys))) n in
    let whole = times-append x (g y) (flat_map g ys) in
    omega (arith, rest, here, split, sum, whole)

-- the sum over a list of lists
pub total-list : {A : Type 0} (x : ℕ) (g : A → List ℕ) (d : A) (ys : List A) (n : ℕ) → n ≤ length ys
    → total (λ q. times x (g (get_or ys q d))) n ≡ times x (flat_map g (take n ys))
total-list x g d ys zero l = refl
total-list x g d ys (suc n) l =
    let rest = total-list x g d ys n (omega (arith, l)) in
    let next : suc n ≡ n + 1 = omega arith in
    let more = ap (λ k. take k ys) next ∙ take_more ys n d (omega (arith, l)) in
    let split =
    ap (λ zs. times x (flat_map g zs)) more ∙ ap (times x) (flat_map-append g (take n ys) (get_or ys n d ∷ []))
    ∙ times-append x (flat_map g (take n ys)) (g (get_or ys n d) ++ []) in
    let last = times-append x (g (get_or ys n d)) [] in
    omega (arith, rest, split, last)

-- numbers that rise, the first no less than a bound
abbrev pub AtLeast : ℕ → List ℕ → Type 0
AtLeast low [] = Unit {0}
AtLeast low (x ∷ xs) = (low ≤ x) × AtLeast (x + 1) xs

pub at_least-less : (low less : ℕ) (xs : List ℕ) → less ≤ low → AtLeast low xs → AtLeast less xs
at_least-less low less [] l a = tt
at_least-less low less (x ∷ xs) l a = (let b = a.0 in omega (arith, b, l), a.1)

index-next : (x : ℕ) (xs : List ℕ) (k : ℕ) → slice_index (x ∷ xs) (k + 1) ≡ slice_index xs k
index-next x xs k = let e : k + 1 ≡ suc k = omega arith in ap (slice_index (x ∷ xs)) e

rising-tail : (x : ℕ) (xs : List ℕ) → IsStrictlyIncreasing (x ∷ xs) → IsStrictlyIncreasing xs
rising-tail x xs r = λ k l.
    let up = r (k + 1) (omega (arith, l)) in
    let here = index-next x xs k in
    let there = index-next x xs (k + 1) in
    omega (arith, up, here, there)

pub at_least-rising : (low : ℕ) (xs : List ℕ) → (0 < length xs → low ≤ slice_index xs 0) → IsStrictlyIncreasing xs
    → AtLeast low xs
at_least-rising low [] first r = tt
at_least-rising low (x ∷ xs) first r = (
  first (omega arith),
  at_least-rising (x + 1) xs
      (λ some.
      let up = r 0 (omega (arith, some)) in
      let next = index-next x xs 0 in
      omega (arith, up, next))
      (rising-tail x xs r),
)

pub rising-at_least : (low : ℕ) (xs : List ℕ) → AtLeast low xs → IsStrictlyIncreasing xs
rising-at_least low [] a = λ k l. absurd (omega (arith, l))
rising-at_least low (x ∷ []) a = λ k l. absurd (omega (arith, l))
rising-at_least low (x ∷ y ∷ ys) a = by a.1.0 (rising-at_least (x + 1) (y ∷ ys) a.1)
  where
    by : x + 1 ≤ y → IsStrictlyIncreasing (y ∷ ys) → (k : ℕ) → k + 1 < suc (suc (length ys))
        → slice_index (x ∷ y ∷ ys) k < slice_index (x ∷ y ∷ ys) (k + 1)
    by up behind zero l = omega (arith, up)
    by up behind (suc k) l =
        let rest = behind k (omega (arith, l)) in
        let next = index-next x (y ∷ ys) (suc k) in
        let e : k + 1 ≡ suc k = omega arith in
        let same = ap (slice_index (y ∷ ys)) e in
        omega (arith, rest, next, same)

-- and once each
pub once-rising : (low : ℕ) (xs : List ℕ) → AtLeast low xs → (x : ℕ) → times x xs ≤ 1
once-rising low [] a x = omega arith
once-rising low (y ∷ ys) a x =
    let few = once-rising (y + 1) ys a.1 x in
    elim (cases_eq y x) [
      | inl e ↦
          let none = above (y + 1) ys a.1 (omega (arith, e)) in
          let one : one_if (nat_eq y x) 1 ≡ 1 = cond-true (nat_eq y x) 1 0 (eq-eqb y x e) in
          omega (arith, none, one)
      | inr other ↦
          let not_one : one_if (nat_eq y x) 1 ≡ 0 = cond-false (nat_eq y x) 1 0 (ne_eqb y x other) in
          omega (arith, few, not_one)
    ]
  where
    above : (bound : ℕ) (zs : List ℕ) → AtLeast bound zs → x < bound → times x zs ≡ 0
    above bound [] b l = refl
    above bound (z ∷ zs) b l =
        let up = b.0 in
        let rest = above (z + 1) zs b.1 (omega (arith, up, l)) in
        let here : one_if (nat_eq z x) 1 ≡ 0 =
        cond-false (nat_eq z x) 1 0 (ne_eqb z x (λ e. omega (arith, e, up, l))) in
        omega (arith, rest, here)
