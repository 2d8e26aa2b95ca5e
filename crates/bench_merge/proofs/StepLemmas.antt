-- One stamp more is taken; and all are.
use Rattle.std.proofs.Common.{◌≡◌, ◌≢◌, ◌∙◌, ◌+◌, ◌-◌, ◌<◌, ◌≤◌, ℕ, zero, suc, List, [], ◌∷◌, ◌++◌, false, length, take, set, map, refl, ap, sym, subst, arith, inl, inr}
use Rattle.std.specs.Prelude.{slice_index, nat_eq, replicate, Option, None, Some}
use Rattle.std.specs.List.{range_with_len}
use Rattle.std.specs.List.Sorted.{IsStrictlyIncreasing}
use Rattle.std.proofs.lemmas.Bool.{cases_eq, cases_lt, eq-eqb, ne_eqb, leb-false, cond-true, cond-false}
use Rattle.std.proofs.lemmas.List.{append-nil, get_or-set_same, get_or-set_other, get_or_append_left, get_or_at, get_or_past, length-set, length_push, map-append, take_all, take_more}
use Rattle.std.proofs.lemmas.List.Elements.{filter-append}
use Rattle.bench_merge.specs.declared.merging.Placed.{Placed}
use Rattle.bench_merge.specs.Order.{IsOrder, of_part, stamps_at}
use Rattle.bench_merge.specs.Heads.{IsHead, IsTaken, IsTop, Merging, UpTo, is_late}

-- numbers rise with one above the last
rising-push : (xs : List ℕ) (y : ℕ) → IsStrictlyIncreasing xs → (0 < length xs → slice_index xs (length xs - 1) < y)
    → IsStrictlyIncreasing (xs ++ y ∷ [])
rising-push xs y rising last k within =
    elim (cases_lt (k + 1) (length xs)) [
      | inl l ↦
          rw (get_or_append_left xs (y ∷ []) 0 k (omega arith), get_or_append_left xs (y ∷ []) 0 (k + 1) l) (rising k l)
      | inr l ↦
          let count = length_push xs y in
          let here : length xs ≡ k + 1 = omega arith in
          let at = get_or_at xs y [] 0 (k + 1) here in
          let before : length xs - 1 ≡ k = omega arith in
          let below = last (omega arith) in
          rw (get_or_append_left xs (y ∷ []) 0 k (omega arith), at) (subst (λ n. slice_index xs n < y) before below)
    ]

range-suc : (a n : ℕ) → range_with_len a (suc n) ≡ range_with_len a n ++ (a + n) ∷ []
range-suc a zero = let e : a ≡ a + 0 = omega arith in ap (λ m. m ∷ []) e
range-suc a (suc n) =
    let e : a + 1 + n ≡ a + suc n = omega arith in
    ap (λ xs. a ∷ xs) (range-suc (a + 1) n ∙ ap (λ m. range_with_len (a + 1) n ++ m ∷ []) e)

range-more : (a n : ℕ) → range_with_len a (n + 1) ≡ range_with_len a n ++ (a + n) ∷ []
range-more a n = let e : n + 1 ≡ suc n = omega arith in ap (range_with_len a) e ∙ range-suc a n

-- what an order has of a part once one more was taken of it, or of another
of_part-own : (q : ℕ) (order : List Placed) (t : Placed) → q ≡ t.part → of_part q (order ++ t ∷ []) ≡ of_part q order ++ t ∷ []
of_part-own q order t e =
    filter-append (λ u. nat_eq u.part q) order (t ∷ [])
    ∙ ap (λ xs. of_part q order ++ xs) (cond-true (nat_eq t.part q) (t ∷ []) [] (eq-eqb t.part q (sym e)))

of_part-other : (q : ℕ) (order : List Placed) (t : Placed) → q ≢ t.part → of_part q (order ++ t ∷ []) ≡ of_part q order
of_part-other q order t apart =
    filter-append (λ u. nat_eq u.part q) order (t ∷ [])
    ∙ ap (λ xs. of_part q order ++ xs) (cond-false (nat_eq t.part q) (t ∷ []) [] (ne_eqb t.part q (λ e. apart (sym e))))
    ∙ append-nil (of_part q order)

taken-own : (parts : List (List ℕ)) (heads : List ℕ) (order : List Placed) (t : Placed) (q : ℕ) → IsHead parts heads t → q ≡ t.part
    → IsTaken parts (slice_index heads q) order q → IsTaken parts (t.place + 1) (order ++ t ∷ []) q
taken-own parts heads order t q head e old =
    let place : slice_index heads q ≡ t.place = ap (slice_index heads) e ∙ sym head.place_is in
    let within : t.place < length (stamps_at parts q) = subst (λ p. t.place < length (stamps_at parts p)) (sym e) head.within in
    let stamp : t.stamp ≡ slice_index (stamps_at parts q) t.place =
    subst (λ p. t.stamp ≡ slice_index (stamps_at parts p) t.place) (sym e) head.stamp_is in
    let zero_more : t.place ≡ 0 + t.place = omega arith in
    record {
      stamps =
          ap (map (λ u. u.stamp)) (of_part-own q order t e)
          ∙ map-append (λ u. u.stamp) (of_part q order) (t ∷ [])
          ∙ ap (λ xs. xs ++ t.stamp ∷ []) (old.stamps ∙ ap (λ n. take n (stamps_at parts q)) place)
          ∙ ap (λ s. take t.place (stamps_at parts q) ++ s ∷ []) stamp
          ∙ sym (take_more (stamps_at parts q) t.place 0 within);
      places =
          ap (map (λ u. u.place)) (of_part-own q order t e)
          ∙ map-append (λ u. u.place) (of_part q order) (t ∷ [])
          ∙ ap (λ xs. xs ++ t.place ∷ []) (old.places ∙ ap (range_with_len 0) place)
          ∙ ap (λ n. range_with_len 0 t.place ++ n ∷ []) zero_more
          ∙ sym (range-more 0 t.place);
      within = omega arith;
    }

taken-other : (parts : List (List ℕ)) (n : ℕ) (order : List Placed) (t : Placed) (q : ℕ) → q ≢ t.part → IsTaken parts n order q
    → IsTaken parts n (order ++ t ∷ []) q
taken-other parts n order t q apart old = record {
  stamps = ap (map (λ u. u.stamp)) (of_part-other q order t apart) ∙ old.stamps;
  places = ap (map (λ u. u.place)) (of_part-other q order t apart) ∙ old.places;
  within = old.within;
}

-- the last of what was taken is below the next
below-next : (parts : List (List ℕ)) (heads : List ℕ) (order : List Placed) (last : Option Placed) (t : Placed)
    → IsTop parts heads order last → is_late last t ≡ false → 0 < length (map (λ u. u.stamp) order)
    → slice_index (map (λ u. u.stamp) order) (length (map (λ u. u.stamp) order) - 1) < t.stamp
below-next parts heads order None t top late some = absurd (let none = ap (λ o. length (map (λ (u : Placed). u.stamp) o)) top in omega (arith, none, some))
below-next parts heads order (Some l) t top late some =
    let stamps : map (λ (u : Placed). u.stamp) order ≡ map (λ (u : Placed). u.stamp) top.before ++ l.stamp ∷ [] =
    ap (map (λ u. u.stamp)) top.order_is ∙ map-append (λ u. u.stamp) top.before (l ∷ []) in
    let count = length_push (map (λ (u : Placed). u.stamp) top.before) l.stamp in
    let at = get_or_at (map (λ (u : Placed). u.stamp) top.before) l.stamp [] 0
    (length (map (λ (u : Placed). u.stamp) top.before ++ l.stamp ∷ []) - 1) (omega arith) in
    let is : slice_index (map (λ (u : Placed). u.stamp) order) (length (map (λ (u : Placed). u.stamp) order) - 1) ≡ l.stamp =
    ap (λ xs. slice_index xs (length xs - 1)) stamps ∙ at in
    subst (λ s. s < t.stamp) (sym is) (leb-false t.stamp l.stamp late)

-- one more is taken
pub Merging-more : (parts : List (List ℕ)) (heads : List ℕ) (order : List Placed) (last : Option Placed) (t : Placed)
    → Merging parts heads order last → UpTo parts heads (length parts) (Some t) → is_late last t ≡ false
    → Merging parts (set heads t.part (t.place + 1)) (order ++ t ∷ []) (Some t)
Merging-more parts heads order last t m next late =
    let head = next.0 in
    let among : t.part < length heads = subst (λ n. t.part < n) (sym m.each) head.among in
    let own : slice_index (set heads t.part (t.place + 1)) t.part ≡ t.place + 1 = get_or-set_same heads t.part (t.place + 1) 0 among in
    record {
      each = length-set heads t.part (t.place + 1) ∙ m.each;
      taken = λ q. elim (cases_eq q t.part) [
        | inl e ↦
            subst (λ n. IsTaken parts n (order ++ t ∷ []) q) (sym (ap (slice_index (set heads t.part (t.place + 1))) e ∙ own))
            (taken-own parts heads order t q head e (m.taken q))
        | inr apart ↦
            subst (λ n. IsTaken parts n (order ++ t ∷ []) q) (sym (get_or-set_other heads t.part q (t.place + 1) 0 apart))
            (taken-other parts (slice_index heads q) order t q apart (m.taken q))
      ];
      rising =
          subst IsStrictlyIncreasing (sym (map-append (λ u. u.stamp) order (t ∷ [])))
          (rising-push (map (λ u. u.stamp) order) t.stamp m.rising (below-next parts heads order last t m.top late));
      top = record {
        before = order;
        order_is = refl;
        next_is = own;
        within = head.within;
        stamp_is = head.stamp_is;
        above = λ q apart there more.
            let same : slice_index (set heads t.part (t.place + 1)) q ≡ slice_index heads q =
            get_or-set_other heads t.part q (t.place + 1) 0 apart in
            subst (λ n. t.stamp ≤ slice_index (stamps_at parts q) n) (sym same)
            (next.1 q there (subst (λ n. n < length (stamps_at parts q)) same more));
      };
    }

zeros : (n q : ℕ) → slice_index (replicate n 0) q ≡ 0
zeros zero q = refl
zeros (suc n) zero = refl
zeros (suc n) (suc q) = zeros n q

-- nothing is taken yet
pub Merging-none : (parts : List (List ℕ)) (heads : List ℕ) → heads ≡ replicate (length parts) 0 → length heads ≡ length parts
    → Merging parts heads [] None
Merging-none parts heads e each = record {
  each = each;
  taken = λ q.
      let none : slice_index heads q ≡ 0 = ap (λ xs. slice_index xs q) e ∙ zeros (length parts) q in
      subst (λ n. IsTaken parts n [] q) (sym none) (record { stamps = refl; places = refl; within = omega arith });
  rising = λ k within. absurd (omega (arith, within));
  top = refl;
}

-- all of a part is taken
whole : (parts : List (List ℕ)) (heads : List ℕ) (q : ℕ) → UpTo parts heads (length parts) None
    → slice_index heads q ≤ length (stamps_at parts q) → slice_index heads q ≡ length (stamps_at parts q)
whole parts heads q none within =
    elim (cases_lt q (length parts)) [
      | inl l ↦ let k = none q l in omega (arith, k, within)
      | inr l ↦ let past = ap length (get_or_past parts q [] l) in omega (arith, past, within)
    ]

-- all are taken
pub Merging-all : (parts : List (List ℕ)) (heads : List ℕ) (order : List Placed) (last : Option Placed)
    → Merging parts heads order last → UpTo parts heads (length parts) None → IsOrder parts order
Merging-all parts heads order last m none = record {
  rising = m.rising;
  stamps = λ q.
      let t = m.taken q in
      let all = whole parts heads q none t.within in
      t.stamps ∙ ap (λ n. take n (stamps_at parts q)) all ∙ take_all (length (stamps_at parts q)) (stamps_at parts q) (omega arith);
  places = λ q.
      let t = m.taken q in
      t.places ∙ ap (range_with_len 0) (whole parts heads q none t.within);
}
