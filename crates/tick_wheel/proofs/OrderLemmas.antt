-- The one order of firings: by due moment and then owner.
use Rattle.std.proofs.Common.{◌≡◌, ℕ, suc, ◌<◌, ◌⊎◌, true, List, [], ◌∷◌, get_or, AllPairs, Contains, refl, sym, ap, subst, ◌∙◌, inl, inr, true≢false, lt-ltb, is_lt, nat_cmp, arith}
use Rattle.std.specs.Ordering.{ordering_then}
use Rattle.std.specs.declared.cmp.Ordering.{Ordering}
use Rattle.std.specs.declared.cmp.Ordering.TheVariants.{Less, Equal}
use Rattle.std.specs.Cmp.{IsTotalOrder, IsStrictWeakOrder, nat_cmp_total, on_total, then_total, tied_itself}
use Rattle.std.specs.List.Sorted.{IsSortedBy}
use Rattle.std.proofs.lemmas.Bool.{cases_lt}
use Rattle.std.proofs.lemmas.List.Elements.{Contains-append_cases, Contains-append_left, Contains-append_right, Contains-push, Contains-push_cases}
use Rattle.std.proofs.lemmas.List.Sorted.{ranks_by, sorted_far}
use Rattle.tick_wheel.specs.declared.timer.Firing.{Firing}
use Rattle.tick_wheel.specs.Timers.{ComesBefore}
use Rattle.tick_wheel.specs.Places.{NotAfter}

-- how the code compares firings
abbrev pub firing_cmp : Firing → Firing → Ordering
firing_cmp x y =
    ordering_then (nat_cmp x.due y.due) (ordering_then (nat_cmp x.owner y.owner) (nat_cmp x.generation y.generation))

firing_cmp_total : IsTotalOrder firing_cmp
firing_cmp_total =
    then_total (on_total (λ (f : Firing). f.due) nat_cmp_total)
    (then_total (on_total (λ (f : Firing). f.owner) nat_cmp_total) (on_total (λ (f : Firing). f.generation) nat_cmp_total))

-- a number below another compares so
Less-below : (a b : ℕ) → a < b → nat_cmp a b ≡ Less
Less-below a b below = rw (lt-ltb a b below) refl

-- equal numbers compare so
Equal-same : (a b : ℕ) → a ≡ b → nat_cmp a b ≡ Equal
Equal-same a b same = ap (nat_cmp a) (sym same) ∙ tied_itself nat_cmp_total a

-- a firing that comes before another compares so
less_before : (x y : Firing) → ComesBefore x y → is_lt (firing_cmp x y) ≡ true
less_before x y (inl below) =
    ap (λ o. is_lt (ordering_then o (ordering_then (nat_cmp x.owner y.owner) (nat_cmp x.generation y.generation)))) (Less-below x.due y.due below)
less_before x y (inr (same, below)) =
    ap (λ o. is_lt (ordering_then o (ordering_then (nat_cmp x.owner y.owner) (nat_cmp x.generation y.generation)))) (Equal-same x.due y.due same)
    ∙ ap (λ o. is_lt (ordering_then o (nat_cmp x.generation y.generation))) (Less-below x.owner y.owner below)

-- of sorted firings none comes after a later one
pub NotAfter-sorted : (firings : List Firing) → IsSortedBy (λ x y. is_lt (firing_cmp x y)) firings
    → AllPairs NotAfter firings
NotAfter-sorted firings sorted i j d before inside later =
    let weak : IsStrictWeakOrder (λ x y. is_lt (firing_cmp x y)) = ranks_by firing_cmp_total (λ (f : Firing). f) in
    true≢false (sym (less_before (get_or firings j d) (get_or firings i d) later) ∙ sorted_far (λ x y. is_lt (firing_cmp x y)) weak firings sorted i j d (omega arith) inside)

-- with owners that differ, one of the two comes before the other
pub before_not_after : (x y : Firing) → NotAfter x y → (x.owner ≡ y.owner → ⊥) → ComesBefore x y
before_not_after x y not_after differ = elim (cases_lt x.due y.due) [
  | inl below ↦ inl below
  | inr from ↦ elim (cases_lt y.due x.due) [
    | inl above ↦ absurd (not_after (inl above))
    | inr same ↦ elim (cases_lt x.owner y.owner) [
      | inl below ↦ inr (omega arith, below)
      | inr owner_from ↦ elim (cases_lt y.owner x.owner) [
        | inl above ↦ absurd (not_after (inr (omega arith, above)))
        | inr equal ↦ absurd (differ (omega arith))
      ]
    ]
  ]
]

-- of two firings at most one comes before the other
one_way : (x y : Firing) → ComesBefore x y → ComesBefore y x → ⊥
one_way x y (inl a) (inl b) = omega arith
one_way x y (inl a) (inr (s, b)) = omega arith
one_way x y (inr (r, a)) (inl b) = omega arith
one_way x y (inr (r, a)) (inr (s, b)) = omega arith

module _ {X : Type 0} where
  -- an element of a list is its head or one of the others
  pub head_or_rest : (x y : X) (xs : List X) → Contains (x ∷ xs) y → (x ≡ y) ⊎ Contains xs y
  head_or_rest x y xs there = elim (Contains-append_cases (x ∷ []) xs y there) [
    | inl first ↦ elim (Contains-push_cases [] x y first) [
      | inl none ↦ absurd (omega (arith, none.1))
      | inr same ↦ inl same
    ]
    | inr rest ↦ inr rest
  ]

  -- the head is an element
  pub Contains-head : (x : X) (xs : List X) → Contains (x ∷ xs) x
  Contains-head x xs = Contains-append_left (x ∷ []) xs x (Contains-push [] x)

  -- and so is each of the others
  pub Contains-rest : (x y : X) (xs : List X) → Contains xs y → Contains (x ∷ xs) y
  Contains-rest x y xs there = Contains-append_right (x ∷ []) xs y there

  -- the head stands so to each of the others
  head_pairs : (R : X → X → Type 0) (x y : X) (xs : List X) → AllPairs R (x ∷ xs) → Contains xs y → R x y
  head_pairs R x y xs pairs (k, inside, is) = subst (R x) is (pairs 0 (suc k) y (omega arith) (omega arith))

  -- and the others to each other
  pub rest_pairs : (R : X → X → Type 0) (x : X) (xs : List X) → AllPairs R (x ∷ xs) → AllPairs R xs
  rest_pairs R x xs pairs i j d before inside = pairs (suc i) (suc j) d (omega arith) (omega arith)

-- the head of a list in order is none of the others
pub not_again : (x f : Firing) (xs : List Firing) → AllPairs ComesBefore (x ∷ xs) → Contains xs f → x ≡ f → ⊥
not_again x f xs ordered there same =
    let itself : ComesBefore f f = subst (λ z. ComesBefore z f) same (head_pairs ComesBefore x f xs ordered there) in
    one_way f f itself itself

-- two lists in order with the same firings have the same head
same_head : (x y : Firing) (xs ys : List Firing) → AllPairs ComesBefore (x ∷ xs) → AllPairs ComesBefore (y ∷ ys)
    → Contains (y ∷ ys) x → Contains (x ∷ xs) y → x ≡ y
same_head x y xs ys a-ordered b-ordered x-there y-there = elim (head_or_rest y x ys x-there) [
  | inl same ↦ sym same
  | inr x-later ↦ elim (head_or_rest x y xs y-there) [
    | inl same ↦ same
    | inr y-later ↦ absurd (one_way y x (head_pairs ComesBefore y x ys b-ordered x-later) (head_pairs ComesBefore x y xs a-ordered y-later))
  ]
]

-- and the same others
same_rest : (x y f : Firing) (xs ys : List Firing) → AllPairs ComesBefore (x ∷ xs) → x ≡ y
    → (Contains (x ∷ xs) f → Contains (y ∷ ys) f) → Contains xs f → Contains ys f
same_rest x y f xs ys ordered same into there = elim (head_or_rest y f ys (into (Contains-rest x f xs there))) [
  | inl first ↦ absurd (not_again x f xs ordered there (same ∙ first))
  | inr rest ↦ rest
]

-- in order, there is one list of the same firings
pub one_in_order : (a b : List Firing) → AllPairs ComesBefore a → AllPairs ComesBefore b
    → ((f : Firing) → Contains a f → Contains b f) → ((f : Firing) → Contains b f → Contains a f) → a ≡ b
one_in_order [] [] a-ordered b-ordered into back = refl
one_in_order [] (y ∷ ys) a-ordered b-ordered into back =
    let none = back y (Contains-head y ys) in absurd (omega (arith, none.1))
one_in_order (x ∷ xs) [] a-ordered b-ordered into back =
    let none = into x (Contains-head x xs) in absurd (omega (arith, none.1))
one_in_order (x ∷ xs) (y ∷ ys) a-ordered b-ordered into back =
    let same = same_head x y xs ys a-ordered b-ordered (into x (Contains-head x xs)) (back y (Contains-head y ys)) in
    let rest = one_in_order xs ys (rest_pairs ComesBefore x xs a-ordered) (rest_pairs ComesBefore y ys b-ordered)
    (λ f. same_rest x y f xs ys a-ordered same (into f)) (λ f. same_rest y x f ys xs b-ordered (sym same) (back f)) in
    λ i. same i ∷ rest i
