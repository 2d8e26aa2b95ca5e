-- The entries of parts in the order of their stamps, taken part by part.
use Rattle.std.proofs.Common.{◌≡◌, ◌≢◌, ◌∙◌, ◌+◌, ◌-◌, ◌<◌, ◌≤◌, ℕ, zero, suc, List, [], ◌∷◌, ◌++◌, Bool, true, false}
use Rattle.std.proofs.Common.{length, drop, map, get_or, refl, ap, sym, subst, arith, inl, inr}
use Rattle.std.specs.Prelude.{filter, flat_map, nat_eq, nat_lt, option_to_list, slice_get, slice_index_or}
use Rattle.std.specs.Prelude.{Some}
use Rattle.std.specs.List.{list_all}
use Rattle.std.proofs.lemmas.Bool.{cases_eq, cases_lt, cond-true, cond-false, eq-eqb, eqb-true, false≢true, le-ltb}
use Rattle.std.proofs.lemmas.Bool.{lt-ltb, ne_eqb}
use Rattle.std.proofs.lemmas.List.{append-nil, append_assoc, drop_all, drop_more, get_or-map, get_or_at, length-append}
use Rattle.std.proofs.lemmas.List.{length-map}
use Rattle.std.proofs.lemmas.List.{length_push, map-append}
use Rattle.std.proofs.lemmas.List.Concat.{flat_map-append}
use Rattle.std.proofs.lemmas.List.Elements.{filter-append}
use Rattle.std.proofs.lemmas.List.Folds.{list_all-map}
use Rattle.std.proofs.lemmas.List.FromFn.{get_or-range_with_len, length-range_with_len}
use Rattle.bench_item.specs.declared.entry.Entry.{Entry}
use Rattle.bench_merge.specs.Order.{IsOrder, of_part, stamps_at}
use Rattle.bench_merge.specs.declared.merging.Placed.{Placed}
use Rattle.bench_parts.specs.Own.{is_of, part_at}
use Rattle.bench_parts.specs.Views.{stamped_at}
use Rattle.bench_spec.specs.Merged.{Kept, OfClock, OfDesk, OfLines, OfShard, Part, Stamped, entries_kept, is_same_part}
use Rattle.bench_spec.specs.Merged.{part_of, stamp_of}
use Rattle.bench_spec.proofs.RunLemmas.{both_true}
use Rattle.bench_gather.specs.Ordered.{ByParts, are_own, entries_by, entries_at, stamped_by, stamps_of}

-- the place at which a part stands
abbrev pub place_of : ℕ → Part → ℕ
place_of shards (OfShard shard) = shard
place_of shards OfLines = shards
place_of shards OfClock = shards + 1
place_of shards (OfDesk desk) = desk + (shards + 2)

pub place-is : (shards place : ℕ) (part : Part) → is_same_part (part_at shards place) part ≡ true
    → place ≡ place_of shards part
place-is shards place part same =
    elim (cases_lt place shards) [
      | inl l ↦
          of_shard part
          (subst (λ p. is_same_part p part ≡ true)
          (cond-true (nat_lt place shards) (OfShard place) _ (lt-ltb place shards l)) same)
      | inr more ↦
          let rest = subst (λ p. is_same_part p part ≡ true)
          (cond-false (nat_lt place shards) (OfShard place) _ (le-ltb place shards more)) same in
          elim (cases_eq place shards) [
            | inl e ↦ of_lines e part
                (subst (λ p. is_same_part p part ≡ true)
                (cond-true (nat_eq place shards) OfLines _ (eq-eqb place shards e)) rest)
            | inr apart ↦
                let last = subst (λ p. is_same_part p part ≡ true)
                (cond-false (nat_eq place shards) OfLines _ (ne_eqb place shards apart)) rest in
                elim (cases_eq place (shards + 1)) [
                  | inl e ↦ of_clock e part
                      (subst (λ p. is_same_part p part ≡ true)
                      (cond-true (nat_eq place (shards + 1)) OfClock _ (eq-eqb place (shards + 1) e)) last)
                  | inr behind ↦
                      of_desk more apart behind part
                      (subst (λ p. is_same_part p part ≡ true)
                      (cond-false (nat_eq place (shards + 1)) OfClock _ (ne_eqb place (shards + 1) behind)) last)
                ]
          ]
    ]
  where
    of_shard : (p : Part) → is_same_part (OfShard place) p ≡ true → place ≡ place_of shards p
    of_shard (OfShard other) h = eqb-true place other h
    of_shard OfLines h = absurd (false≢true h)
    of_shard OfClock h = absurd (false≢true h)
    of_shard (OfDesk other) h = absurd (false≢true h)

    of_lines : place ≡ shards → (p : Part) → is_same_part OfLines p ≡ true → place ≡ place_of shards p
    of_lines e (OfShard other) h = absurd (false≢true h)
    of_lines e OfLines h = e
    of_lines e OfClock h = absurd (false≢true h)
    of_lines e (OfDesk other) h = absurd (false≢true h)

    of_clock : place ≡ shards + 1 → (p : Part) → is_same_part OfClock p ≡ true → place ≡ place_of shards p
    of_clock e (OfShard other) h = absurd (false≢true h)
    of_clock e OfLines h = absurd (false≢true h)
    of_clock e OfClock h = e
    of_clock e (OfDesk other) h = absurd (false≢true h)

    of_desk : shards ≤ place → place ≢ shards → place ≢ shards + 1 → (p : Part)
        → is_same_part (OfDesk (place - shards - 2)) p ≡ true → place ≡ place_of shards p
    of_desk more apart behind (OfShard other) h = absurd (false≢true h)
    of_desk more apart behind OfLines h = absurd (false≢true h)
    of_desk more apart behind OfClock h = absurd (false≢true h)
    of_desk more apart behind (OfDesk other) h =
        let e = eqb-true (place - shards - 2) other h in
        elim (cases_lt place (shards + 2)) [
          | inl l ↦ absurd
              (elim (cases_eq place shards) [ inl s ↦ apart s | inr s ↦ behind (omega (arith, l, more, s)) ])
          | inr l ↦ omega (arith, e, l)
        ]

-- of two parts, an entry stands in one only
pub one-part : (shards p q : ℕ) (e : Entry) → is_of shards p e ≡ true
    → is_same_part (part_at shards q) (part_of shards e) ≡ true → p ≡ q
one-part shards p q e here there =
    place-is shards p (part_of shards e) here ∙ sym (place-is shards q (part_of shards e) there)

-- a filter that all pass, and one that none does
all-pass : (p : Stamped → Bool) (xs : List Stamped) → list_all p xs ≡ true → filter p xs ≡ xs
all-pass p [] all = refl
all-pass p (x ∷ xs) all =
    let both = both_true (p x) (list_all p xs) all in
    cond-true (p x) (x ∷ filter p xs) (filter p xs) both.0 ∙ ap (λ ys. x ∷ ys) (all-pass p xs both.1)

false_by : (b : Bool) → (b ≡ true → ⊥) → b ≡ false
false_by true never = absurd (never refl)
false_by false never = refl

none-pass : (shards p q : ℕ) (xs : List Stamped) → p ≢ q → list_all (λ s. is_of shards p s.entry) xs ≡ true
    → filter (λ s. is_of shards q s.entry) xs ≡ []
none-pass shards p q [] apart all = refl
none-pass shards p q (x ∷ xs) apart all =
    let both = both_true (is_of shards p x.entry) (list_all (λ (s : Stamped). is_of shards p s.entry) xs) all in
    cond-false (is_of shards q x.entry) (x ∷ filter (λ s. is_of shards q s.entry) xs)
    (filter (λ s. is_of shards q s.entry) xs)
    (false_by (is_of shards q x.entry) (λ there. apart (one-part shards p q x.entry both.0 there)))
    ∙ none-pass shards p q xs apart both.1

-- the stamps of a part
pub stamps_at-map : (parts : List (List Kept)) (q : ℕ)
    → stamps_at (stamps_of parts) q ≡ map stamp_of (slice_index_or parts q [])
stamps_at-map [] q = refl
stamps_at-map (x ∷ xs) zero = refl
stamps_at-map (x ∷ xs) (suc q) = stamps_at-map xs q

part_len : (parts : List (List Kept)) (order : List Placed) (q : ℕ) → IsOrder (stamps_of parts) order
    → length (of_part q order) ≡ length (slice_index_or parts q [])
part_len parts order q o =
    sym (length-map (of_part q order) (λ t. t.place)) ∙ ap length (o.places q)
    ∙ length-range_with_len 0 (length (stamps_at (stamps_of parts) q)) ∙ ap length (stamps_at-map parts q)
    ∙ length-map (slice_index_or parts q []) stamp_of

of_part-here : (q : ℕ) (t : Placed) (rest : List Placed) → t.part ≡ q → of_part q (t ∷ rest) ≡ t ∷ of_part q rest
of_part-here q t rest e = cond-true (nat_eq t.part q) (t ∷ of_part q rest) (of_part q rest) (eq-eqb t.part q e)

of_part-there : (q : ℕ) (t : Placed) (rest : List Placed) → t.part ≢ q → of_part q (t ∷ rest) ≡ of_part q rest
of_part-there q t rest apart = cond-false (nat_eq t.part q) (t ∷ of_part q rest) (of_part q rest)
    (ne_eqb t.part q apart)

-- where an order goes on: the next place of its part, which is within it
pub record IsNext (parts : List (List Kept)) (done : List Placed) (t : Placed) (q : ℕ) : Type 0 where
  pub place : t.place ≡ length (of_part q done)
  pub within : length (of_part q done) < length (slice_index_or parts q [])

next : (parts : List (List Kept)) (done rest : List Placed) (t : Placed) (q : ℕ)
    → IsOrder (stamps_of parts) (done ++ t ∷ rest)
    → t.part ≡ q → IsNext parts done t q
next parts done rest t q o e =
    let split : of_part q (done ++ t ∷ rest) ≡ of_part q done ++ t ∷ of_part q rest =
    filter-append (λ u. nat_eq u.part q) done (t ∷ rest) ∙ ap (λ xs. of_part q done ++ xs) (of_part-here q t rest e) in
    let count = sym (ap length split) ∙ part_len parts (done ++ t ∷ rest) q o in
    let sum = length-append (of_part q done) (t ∷ of_part q rest) in
    let n = length (of_part q done) in
    let all = length (stamps_at (stamps_of parts) q) in
    let whole : length (slice_index_or parts q []) ≡ all =
    sym (ap length (stamps_at-map parts q) ∙ length-map (slice_index_or parts q []) stamp_of) in
    let within : n < length (slice_index_or parts q []) = omega (arith, count, sum) in
    let listed =
    sym (ap (map (λ (u : Placed). u.place)) split
    ∙ map-append (λ (u : Placed). u.place) (of_part q done) (t ∷ of_part q rest)) ∙ o.places q in
    let here = get_or_at (map (λ (u : Placed). u.place) (of_part q done)) t.place
    (map (λ (u : Placed). u.place) (of_part q rest)) 0 n
    (length-map (of_part q done) (λ u. u.place)) in
    record {
      place = sym here ∙ ap (λ xs. get_or xs n 0) listed
          ∙ get_or-range_with_len 0 all n 0 (omega (arith, whole, within)) ∙ omega arith;
      within = within;
    }

some-at : (xs : List Kept) (k : ℕ) (d : Kept) → k < length xs → slice_get xs k ≡ Some (get_or xs k d)
some-at [] k d l = absurd (omega (arith, l))
some-at (x ∷ xs) zero d l = refl
some-at (x ∷ xs) (suc k) d l = some-at xs k d (omega (arith, l))

any-kept : (xs : List Kept) (k : ℕ) → k < length xs → Kept
any-kept [] k l = absurd (omega (arith, l))
any-kept (x ∷ xs) k l = x

-- what stands at the next place
stands-at : (parts : List (List Kept)) (done : List Placed) (t : Placed) (q : ℕ) (e : t.part ≡ q)
    (n : IsNext parts done t q)
    → slice_get (slice_index_or parts t.part []) t.place
    ≡ Some
    (get_or (slice_index_or parts q []) (length (of_part q done))
    (any-kept (slice_index_or parts q []) (length (of_part q done)) n.within))
stands-at parts done t q e n =
    let xs = slice_index_or parts q [] in
    ap (λ p. slice_get (slice_index_or parts p []) t.place) e ∙ ap (slice_get xs) n.place
    ∙ some-at xs (length (of_part q done)) (any-kept xs (length (of_part q done)) n.within) n.within

-- what stands at the next place, and behind it
drop-next : (parts : List (List Kept)) (done : List Placed) (t : Placed) (q : ℕ) → t.part ≡ q → IsNext parts done t q
    → flat_map entries_kept (drop (length (of_part q done)) (slice_index_or parts q []))
    ≡ stamped_at parts t.part t.place ++ flat_map entries_kept
    (drop (length (of_part q done) + 1) (slice_index_or parts q []))
drop-next parts done t q e n =
    let xs = slice_index_or parts q [] in
    let k = length (of_part q done) in
    let d = any-kept xs k n.within in
    let there = stands-at parts done t q e n in
    ap (flat_map entries_kept) (drop_more xs k d n.within)
    ∙ ap (λ ys. ys ++ flat_map entries_kept (drop (k + 1) xs))
    (sym (append-nil (entries_kept (get_or xs k d))) ∙ sym (ap (λ o. flat_map entries_kept (option_to_list o)) there))

-- how many an order has of a part once one more is taken
count-here : (q : ℕ) (done : List Placed) (t : Placed) → t.part ≡ q
    → length (of_part q (done ++ t ∷ [])) ≡ length (of_part q done) + 1
count-here q done t e =
    ap length
    (filter-append (λ (u : Placed). nat_eq u.part q) done (t ∷ [])
    ∙ ap (λ xs. of_part q done ++ xs) (of_part-here q t [] e))
    ∙ length_push (of_part q done) t

count-there : (q : ℕ) (done : List Placed) (t : Placed) → t.part ≢ q → of_part q (done ++ t ∷ []) ≡ of_part q done
count-there q done t apart =
    filter-append (λ (u : Placed). nat_eq u.part q) done (t ∷ [])
    ∙ ap (λ xs. of_part q done ++ xs) (of_part-there q t [] apart)
    ∙ append-nil (of_part q done)

-- what stands at the places of an order
abbrev pub items_at : List (List Kept) → Placed → List Kept
items_at parts t = option_to_list (slice_get (slice_index_or parts t.part []) t.place)

abbrev pub items : List (List Kept) → List Placed → List Kept
items parts order = flat_map (items_at parts) order

-- what an order has of a part, from a place on, is what the part has from there on
pub items-here : (parts : List (List Kept)) (done rest : List Placed) (q : ℕ) → IsOrder (stamps_of parts) (done ++ rest)
    → items parts (of_part q rest) ≡ drop (length (of_part q done)) (slice_index_or parts q [])
items-here parts done [] q o =
    let whole = subst (IsOrder (stamps_of parts)) (append-nil done) o in
    let count = part_len parts done q whole in
    sym (drop_all (length (of_part q done)) (slice_index_or parts q []) (omega (arith, count)))
items-here parts done (t ∷ rest) q o =
    let behind = items-here parts (done ++ t ∷ []) rest q
    (subst (IsOrder (stamps_of parts)) (sym (append_assoc done (t ∷ []) rest)) o) in
    elim (cases_eq t.part q) [
      | inl e ↦
          let n = next parts done rest t q o e in
          let xs = slice_index_or parts q [] in
          let d = any-kept xs (length (of_part q done)) n.within in
          ap (items parts) (of_part-here q t rest e)
          ∙ ap (λ o. option_to_list o ++ items parts (of_part q rest)) (stands-at parts done t q e n)
          ∙ ap (λ ys. get_or xs (length (of_part q done)) d ∷ ys)
          (behind ∙ ap (λ k. drop k xs) (count-here q done t e))
          ∙ sym (drop_more xs (length (of_part q done)) d n.within)
      | inr apart ↦
          ap (items parts) (of_part-there q t rest apart) ∙ behind
          ∙ ap (λ os. drop (length os) (slice_index_or parts q [])) (count-there q done t apart)
    ]

-- and their stamps are those of the order
pub stamps-here : (parts : List (List Kept)) (done rest : List Placed) → IsOrder (stamps_of parts) (done ++ rest)
    → map stamp_of (items parts rest) ≡ map (λ t. t.stamp) rest
stamps-here parts done [] o = refl
stamps-here parts done (t ∷ rest) o =
    let q = t.part in
    let n = next parts done rest t q o refl in
    let xs = slice_index_or parts q [] in
    let k = length (of_part q done) in
    let d = any-kept xs k n.within in
    let split : of_part q (done ++ t ∷ rest) ≡ of_part q done ++ t ∷ of_part q rest =
    filter-append (λ u. nat_eq u.part q) done (t ∷ rest)
    ∙ ap (λ ys. of_part q done ++ ys) (of_part-here q t rest refl) in
    let listed =
    sym
    (ap (map (λ (u : Placed). u.stamp)) split
    ∙ map-append (λ (u : Placed). u.stamp) (of_part q done) (t ∷ of_part q rest))
    ∙ o.stamps q ∙ stamps_at-map parts q in
    let here = get_or_at (map (λ (u : Placed). u.stamp) (of_part q done)) t.stamp
    (map (λ (u : Placed). u.stamp) (of_part q rest)) 0 k (length-map (of_part q done) (λ u. u.stamp)) in
    let stamp : stamp_of (get_or xs k d) ≡ t.stamp =
    sym (get_or-map stamp_of xs k d 0 n.within) ∙ ap (λ ys. get_or ys k 0) (sym listed) ∙ here in
    let behind = stamps-here parts (done ++ t ∷ []) rest
    (subst (IsOrder (stamps_of parts)) (sym (append_assoc done (t ∷ []) rest)) o) in
    ap (λ o. map stamp_of (option_to_list o ++ items parts rest)) (stands-at parts done t q refl n)
    ∙ ap (λ s. s ∷ map stamp_of (items parts rest)) stamp ∙ ap (λ ys. t.stamp ∷ ys) behind

-- the entries of an order are those of what stands at its places
pub stamped-items : (parts : List (List Kept)) (order : List Placed)
    → stamped_by parts order ≡ flat_map entries_kept (items parts order)
stamped-items parts [] = refl
stamped-items parts (t ∷ rest) =
    ap (λ xs. stamped_at parts t.part t.place ++ xs) (stamped-items parts rest)
    ∙ sym (flat_map-append entries_kept (items_at parts t) (items parts rest))

part-here : (parts : List (List Kept)) (done rest : List Placed) (q : ℕ) → IsOrder (stamps_of parts) (done ++ rest)
    → stamped_by parts (of_part q rest)
    ≡ flat_map entries_kept (drop (length (of_part q done)) (slice_index_or parts q []))
part-here parts done rest q o =
    stamped-items parts (of_part q rest) ∙ ap (flat_map entries_kept) (items-here parts done rest q o)

-- of each part the order has, from a place on, what the part has from there on
from-here : (shards : ℕ) (parts : List (List Kept)) (done rest : List Placed) (q : ℕ)
    → IsOrder (stamps_of parts) (done ++ rest) → are_own shards parts rest ≡ true
    → filter (λ s. is_of shards q s.entry) (stamped_by parts rest)
    ≡ flat_map entries_kept (drop (length (of_part q done)) (slice_index_or parts q []))
from-here shards parts done [] q o own =
    let whole = subst (IsOrder (stamps_of parts)) (append-nil done) o in
    let count = part_len parts done q whole in
    sym (ap (flat_map entries_kept)
    (drop_all (length (of_part q done)) (slice_index_or parts q []) (omega (arith, count))))
from-here shards parts done (t ∷ rest) q o own =
    let both = both_true (list_all (is_of shards t.part) (entries_at parts t)) (are_own shards parts rest) own in
    let here : list_all (λ (s : Stamped). is_of shards t.part s.entry) (stamped_at parts t.part t.place) ≡ true =
    sym (list_all-map (is_of shards t.part) (λ (s : Stamped). s.entry) (stamped_at parts t.part t.place)) ∙ both.0 in
    let behind = from-here shards parts (done ++ t ∷ []) rest q
    (subst (IsOrder (stamps_of parts)) (sym (append_assoc done (t ∷ []) rest)) o) both.1 in
    let split =
    filter-append (λ (s : Stamped). is_of shards q s.entry) (stamped_at parts t.part t.place) (stamped_by parts rest) in
    elim (cases_eq t.part q) [
      | inl e ↦
          let count = count-here q done t e in
          split
          ∙ ap (λ xs. xs ++ filter (λ (s : Stamped). is_of shards q s.entry) (stamped_by parts rest))
          (all-pass (λ s. is_of shards q s.entry) (stamped_at parts t.part t.place)
          (subst (λ p. list_all (λ (s : Stamped). is_of shards p s.entry)
          (stamped_at parts t.part t.place) ≡ true) e here))
          ∙ ap (λ xs. stamped_at parts t.part t.place ++ xs)
          (behind ∙ ap (λ n. flat_map entries_kept (drop n (slice_index_or parts q []))) count)
          ∙ sym (drop-next parts done t q e (next parts done rest t q o e))
      | inr apart ↦
          split
          ∙ ap (λ xs. xs ++ filter (λ (s : Stamped). is_of shards q s.entry) (stamped_by parts rest))
          (none-pass shards t.part q (stamped_at parts t.part t.place) apart here)
          ∙ behind
          ∙ ap (λ os. flat_map entries_kept (drop (length os) (slice_index_or parts q [])))
          (count-there q done t apart)
    ]

pub each-part : (shards : ℕ) (parts : List (List Kept)) (order : List Placed) → IsOrder (stamps_of parts) order
    → are_own shards parts order ≡ true → (q : ℕ)
    → filter (λ s. is_of shards q s.entry) (stamped_by parts order) ≡ flat_map entries_kept (slice_index_or parts q [])
each-part shards parts order o own q = from-here shards parts [] order q o own

-- the entries alone
pub entries-alone : (parts : List (List Kept)) (order : List Placed)
    → map (λ (s : Stamped). s.entry) (stamped_by parts order) ≡ entries_by parts order
entries-alone parts [] = refl
entries-alone parts (t ∷ rest) =
    map-append (λ (s : Stamped). s.entry) (stamped_at parts t.part t.place) (stamped_by parts rest)
    ∙ ap (λ xs. entries_at parts t ++ xs) (entries-alone parts rest)

pub by-parts : ByParts
by-parts shards parts order o own =
    record { each_part = each-part shards parts order o own; entries = entries-alone parts order }

-- the entries that an order has of a part
pub entries-of_part : (parts : List (List Kept)) (order : List Placed) (q : ℕ) → IsOrder (stamps_of parts) order
    → entries_by parts (of_part q order) ≡ map (λ s. s.entry) (flat_map entries_kept (slice_index_or parts q []))
entries-of_part parts order q o =
    sym (entries-alone parts (of_part q order)) ∙ ap (map (λ (s : Stamped). s.entry)) (part-here parts [] order q o)
