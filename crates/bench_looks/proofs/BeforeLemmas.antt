-- The entries of a part that were stamped before, one place more.
use Rattle.std.proofs.Common.{◌≡◌, ◌∙◌, ◌+◌, ◌<◌, ◌≤◌, ℕ, zero, suc, List, [], ◌∷◌, ◌++◌, length, take, map, refl, ap}
use Rattle.std.proofs.Common.{sym, arith, inl, inr}
use Rattle.std.specs.Prelude.{◌⊎◌, filter, flat_map, nat_lt, option_to_list, slice_get, slice_index}
use Rattle.std.proofs.lemmas.Bool.{cond-true, cond-false, lt-ltb, le-ltb}
use Rattle.std.proofs.lemmas.List.{length-map, map-append, take_all}
use Rattle.std.proofs.lemmas.List.Concat.{flat_map-append}
use Rattle.std.proofs.lemmas.List.Elements.{filter-append}
use Rattle.bench_item.specs.declared.entry.Entry.{Entry}
use Rattle.bench_parts.specs.Views.{stamped_of}
use Rattle.bench_spec.specs.Merged.{Did, Kept, Stamped, entries_before, entries_kept}
use Rattle.bench_looks.specs.Before.{before, before_at, before_till}

pub before-append : (stamp : ℕ) (xs ys : List Kept)
    → before stamp (xs ++ ys) ≡ before stamp xs ++ before stamp ys
before-append stamp xs ys =
    let p = λ (s : Stamped). nat_lt s.stamp stamp in
    ap (entries_before stamp) (flat_map-append entries_kept xs ys)
    ∙ ap (map (λ (s : Stamped). s.entry)) (filter-append p (flat_map entries_kept xs) (flat_map entries_kept ys))
    ∙ map-append (λ (s : Stamped). s.entry) (filter p (flat_map entries_kept xs)) (filter p (flat_map entries_kept ys))

-- one more of a list, if it goes on
take-suc_there : {X : Type 0} (xs : List X) (k : ℕ) → take (suc k) xs ≡ take k xs ++ option_to_list (slice_get xs k)
take-suc_there [] zero = refl
take-suc_there [] (suc k) = refl
take-suc_there (x ∷ xs) zero = refl
take-suc_there (x ∷ xs) (suc k) = ap (λ ys. x ∷ ys) (take-suc_there xs k)

pub take-there : {X : Type 0} (xs : List X) (k : ℕ) → take (k + 1) xs ≡ take k xs ++ option_to_list (slice_get xs k)
take-there xs k =
    let next : k + 1 ≡ suc k = omega arith in
    ap (λ n. take n xs) next ∙ take-suc_there xs k

-- one place more, with what stands there
pub till-next : (stamp k : ℕ) (kept : List Kept) (es : List Entry) → es ≡ before_at stamp kept k
    → before_till stamp (k + 1) kept ≡ before_till stamp k kept ++ es
till-next stamp k kept es is =
    ap (before stamp) (take-there kept k) ∙ before-append stamp (take k kept) (option_to_list (slice_get kept k))
    ∙ ap (λ ys. before_till stamp k kept ++ ys) (sym is)

pub till-all : (stamp n : ℕ) (kept : List Kept) → length kept ≤ n → before_till stamp n kept ≡ before stamp kept
till-all stamp n kept l = ap (before stamp) (take_all n kept l)

-- of entries with stamps
pub logged-there : (stamp : ℕ) (ss : List ℕ) (es : List Entry) (k : ℕ) → k < length ss → slice_index ss k < stamp
    → option_to_list (slice_get es k) ≡ before_at stamp (map Did (stamped_of ss es)) k
logged-there stamp [] es k within l = absurd (omega (arith, within))
logged-there stamp (s ∷ ss) [] k within l = refl
logged-there stamp (s ∷ ss) (e ∷ es) zero within l =
    let this : Stamped = record { stamp = s; entry = e } in
    sym (ap (map (λ (t : Stamped). t.entry)) (cond-true (nat_lt s stamp) (this ∷ []) [] (lt-ltb s stamp l)))
logged-there stamp (s ∷ ss) (e ∷ es) (suc k) within l =
    logged-there stamp ss es k (omega (arith, within)) l

pub logged-later : (stamp : ℕ) (ss : List ℕ) (es : List Entry) (k : ℕ)
    → (length ss ≤ k) ⊎ (stamp ≤ slice_index ss k) → [] ≡ before_at stamp (map Did (stamped_of ss es)) k
logged-later stamp [] es k l = refl
logged-later stamp (s ∷ ss) [] k l = refl
logged-later stamp (s ∷ ss) (e ∷ es) zero (inl past) = absurd (omega (arith, past))
logged-later stamp (s ∷ ss) (e ∷ es) zero (inr l) =
    let this : Stamped = record { stamp = s; entry = e } in
    sym (ap (map (λ (t : Stamped). t.entry)) (cond-false (nat_lt s stamp) (this ∷ []) [] (le-ltb s stamp l)))
logged-later stamp (s ∷ ss) (e ∷ es) (suc k) (inl past) = logged-later stamp ss es k (inl (omega (arith, past)))
logged-later stamp (s ∷ ss) (e ∷ es) (suc k) (inr l) = logged-later stamp ss es k (inr l)

-- no more entries than stamps
stamped-few : (ss : List ℕ) (es : List Entry) → length (stamped_of ss es) ≤ length ss
stamped-few [] es = omega arith
stamped-few (s ∷ ss) [] = omega arith
stamped-few (s ∷ ss) (e ∷ es) = let less = stamped-few ss es in omega (arith, less)

pub logged-few : (ss : List ℕ) (es : List Entry) → length (map Did (stamped_of ss es)) ≤ length ss
logged-few ss es =
    let same = length-map (stamped_of ss es) Did in
    let few = stamped-few ss es in
    omega (arith, same, few)
