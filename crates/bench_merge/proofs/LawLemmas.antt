-- An order, and what would keep parts from it.
use Rattle.std.proofs.Common.{◌≡◌, ◌∙◌, ◌+◌, ◌<◌, ℕ, zero, suc, List, [], ◌∷◌, Bool, true, false, length, map, get_or, refl, ap, sym, subst, arith}
use Rattle.std.specs.Prelude.{cond, filter, nat_eq, slice_index}
use Rattle.std.specs.List.Sorted.{IsStrictlyIncreasing}
use Rattle.std.proofs.Common.{inl, inr}
use Rattle.std.proofs.lemmas.Bool.{cases_order, eqb-true}
use Rattle.std.proofs.lemmas.List.{length-map}
use Rattle.std.proofs.lemmas.List.Kept.{AllPairs-filter, AllPairs-from_increasing}
use Rattle.bench_merge.specs.declared.merging.Placed.{Placed}
use Rattle.bench_merge.specs.Order.{Falls, IsOrder, OrderOrClash, Shares, of_part, stamps_at}

abbrev nowhere : Placed
nowhere = record { stamp = 0; part = 0; place = 0 }

-- the stamp at a place
stamp_at : (xs : List Placed) (i : ℕ) (d : Placed) → i < length xs → slice_index (map (λ t. t.stamp) xs) i ≡ (get_or xs i d).stamp
stamp_at [] i d l = absurd (omega (arith, l))
stamp_at (x ∷ xs) zero d l = refl
stamp_at (x ∷ xs) (suc i) d l = stamp_at xs i d (omega (arith, l))

-- what a filter keeps stands in the list
record Found (p : Placed → Bool) (xs : List Placed) (t : Placed) : Type 0 where
  at : ℕ
  within : at < length xs
  is : get_or xs at nowhere ≡ t
  passes : p t ≡ true

found_behind : (p : Placed → Bool) (x : Placed) (xs : List Placed) (t : Placed) → Found p xs t → Found p (x ∷ xs) t
found_behind p x xs t f = record { at = suc f.at; within = omega (arith, f.within); is = f.is; passes = f.passes }

found_by : (p : Placed → Bool) (x : Placed) (xs ys : List Placed) (b : Bool) → p x ≡ b
    → ((i : ℕ) → i < length ys → Found p xs (get_or ys i nowhere))
    → (i : ℕ) → i < length (cond b (x ∷ ys) ys) → Found p (x ∷ xs) (get_or (cond b (x ∷ ys) ys) i nowhere)
found_by p x xs ys true e rest zero l = record { at = 0; within = omega arith; is = refl; passes = e }
found_by p x xs ys true e rest (suc i) l = found_behind p x xs (get_or ys i nowhere) (rest i (omega (arith, l)))
found_by p x xs ys false e rest i l = found_behind p x xs (get_or ys i nowhere) (rest i l)

found : (p : Placed → Bool) (xs : List Placed) (i : ℕ) → i < length (filter p xs) → Found p xs (get_or (filter p xs) i nowhere)
found p [] i l = absurd (omega (arith, l))
found p (x ∷ xs) i l = found_by p x xs (filter p xs) (p x) refl (found p xs) i l

-- stamps rise along an order, and along what it has of a part
Rises : List Placed → Type 0
Rises xs = (i j : ℕ) (d : Placed) → i < j → j < length xs → (get_or xs i d).stamp < (get_or xs j d).stamp

rises : (order : List Placed) → IsStrictlyIncreasing (map (λ t. t.stamp) order) → Rises order
unfolding Rises
rises order up i j d apart within =
    let all = AllPairs-from_increasing (map (λ (t : Placed). t.stamp) order) up i j 0 apart
    (subst (λ n. j < n) (sym (length-map order (λ (t : Placed). t.stamp))) within) in
    let low = stamp_at order i d (omega (arith, apart, within)) in
    let high = stamp_at order j d within in
    omega (arith, all, low, high)

rises_of : (part : ℕ) (order : List Placed) → Rises order → Rises (of_part part order)
unfolding Rises
rises_of part order up = AllPairs-filter (λ (x : Placed) (y : Placed). x.stamp < y.stamp) (λ t. nat_eq t.part part) order up

-- a stamp of a part stands in the order
record Stands (parts : List (List ℕ)) (order : List Placed) (part place : ℕ) : Type 0 where
  t : Placed
  stamp : slice_index (stamps_at parts part) place ≡ t.stamp
  found_at : Found (λ u. nat_eq u.part part) order t

stands : (parts : List (List ℕ)) (order : List Placed) (part place : ℕ) → IsOrder parts order → place < length (stamps_at parts part)
    → Stands parts order part place
stands parts order part place o within =
    let count : length (of_part part order) ≡ length (stamps_at parts part) =
    sym (length-map (of_part part order) (λ (u : Placed). u.stamp)) ∙ ap length (o.stamps part) in
    let there : place < length (of_part part order) = omega (arith, count, within) in
    record {
      t = get_or (of_part part order) place nowhere;
      stamp = ap (λ xs. slice_index xs place) (sym (o.stamps part)) ∙ stamp_at (of_part part order) place nowhere there;
      found_at = found (λ u. nat_eq u.part part) order place there;
    }

no_fall : (parts : List (List ℕ)) (order : List Placed) → IsOrder parts order → Falls parts → ⊥
unfolding Rises
no_fall parts order o f =
    let count : length (of_part f.part order) ≡ length (stamps_at parts f.part) =
    sym (length-map (of_part f.part order) (λ (u : Placed). u.stamp)) ∙ ap length (o.stamps f.part) in
    let there : f.place + 1 < length (of_part f.part order) = omega (arith, count, f.within) in
    let up = rises_of f.part order (rises order o.rising) f.place (f.place + 1) nowhere (omega arith) there in
    let low : slice_index (stamps_at parts f.part) f.place ≡ (get_or (of_part f.part order) f.place nowhere).stamp =
    ap (λ xs. slice_index xs f.place) (sym (o.stamps f.part)) ∙ stamp_at (of_part f.part order) f.place nowhere (omega (arith, there)) in
    let high : slice_index (stamps_at parts f.part) (f.place + 1) ≡ (get_or (of_part f.part order) (f.place + 1) nowhere).stamp =
    ap (λ xs. slice_index xs (f.place + 1)) (sym (o.stamps f.part)) ∙ stamp_at (of_part f.part order) (f.place + 1) nowhere there in
    omega (arith, up, low, high, f.falls)

no_share : (parts : List (List ℕ)) (order : List Placed) → IsOrder parts order → Shares parts → ⊥
unfolding Rises
no_share parts order o s =
    let one = stands parts order s.part s.place o s.within in
    let other = stands parts order s.other s.place_there o s.within_there in
    let up = rises order o.rising in
    let stamp_one = ap (λ (t : Placed). t.stamp) one.found_at.is in
    let stamp_other = ap (λ (t : Placed). t.stamp) other.found_at.is in
    elim (cases_order one.found_at.at other.found_at.at) [
      | inl e ↦
          let same : one.t ≡ other.t = sym one.found_at.is ∙ ap (λ k. get_or order k nowhere) e ∙ other.found_at.is in
          s.apart (sym (eqb-true one.t.part s.part one.found_at.passes) ∙ ap (λ (t : Placed). t.part) same
          ∙ eqb-true other.t.part s.other other.found_at.passes)
      | inr (inl l) ↦
          let below = up one.found_at.at other.found_at.at nowhere l other.found_at.within in
          omega (arith, below, stamp_one, stamp_other, one.stamp, other.stamp, s.same)
      | inr (inr l) ↦
          let below = up other.found_at.at one.found_at.at nowhere l one.found_at.within in
          omega (arith, below, stamp_one, stamp_other, one.stamp, other.stamp, s.same)
    ]

pub order_or_clash : OrderOrClash
order_or_clash parts order o (inl f) = no_fall parts order o f
order_or_clash parts order o (inr s) = no_share parts order o s
