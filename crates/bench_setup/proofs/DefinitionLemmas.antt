-- Definitions copied one after the other: what is there already stays.
use Rattle.std.proofs.Common.{◌≡◌, ◌<◌, ◌≤◌, ◌+◌, ◌-◌, ◌++◌, ◌∷◌, ◌∙◌, ℕ, true, false, List, [], Some, ap, arith, inl, inr, length, sym, take}
use Rattle.std.specs.Prelude.{is_some, slice_get}
use Rattle.std.proofs.Math.ListN.{get_or}
use Rattle.std.proofs.lemmas.List.{length-append, length-take, take_all, take_more, get_or-append-add}
use Rattle.std.proofs.lemmas.Option.{slice_get_cases, slice_get-get_or}

short : {X : Type 0} (all : List X) (n : ℕ) → length (take n all) ≤ n
short all n = omega (arith, length-take n all)

-- those of every dictionary come first, and are there
pub there_stays : {X : Type 0} (base all own : List X) (place : ℕ) → own ≡ take (place - length base) all
    → is_some (slice_get (base ++ own) place) ≡ true → own ≡ take (place + 1 - length base) all
there_stays base all own place is some =
    let few : length own ≤ place - length base = omega (arith, ap length is, short all (place - length base)) in
    elim (slice_get_cases (base ++ own) place).1 [
      | inl there ↦
          let same : place - length base ≡ place + 1 - length base = omega (arith, there.1, few, length-append base own) in
          is ∙ ap (λ n. take n all) same
      | inr past ↦ absurd (let none : is_some (slice_get (base ++ own) place) ≡ false = ap is_some past.1 in cc)
    ]

-- another is the next
pub next_is_added : {X : Type 0} (base all own : List X) (place : ℕ) (x : X) → own ≡ take (place - length base) all
    → slice_get (base ++ all) place ≡ Some x → is_some (slice_get (base ++ own) place) ≡ false
    → own ++ x ∷ [] ≡ take (place + 1 - length base) all
next_is_added base all own place x is at none =
    elim (slice_get_cases (base ++ own) place).1 [
      | inl there ↦ absurd (let some : is_some (slice_get (base ++ own) place) ≡ true = ap is_some there.2 in cc)
      | inr past ↦
          let few : length own ≤ place - length base = omega (arith, ap length is, short all (place - length base)) in
          let n : ℕ = place - length base in
          let whole : length base + n ≡ place = omega (arith, past.0, length-append base own) in
          elim (slice_get_cases (base ++ all) place).1 [
            | inl there ↦
                let found : slice_get (base ++ all) place ≡ Some (get_or (base ++ all) place x) = slice_get-get_or (base ++ all) place x there.1 in
                let same : get_or (base ++ all) place x ≡ x = cc in
                let first : get_or all n x ≡ x = sym (get_or-append-add base all n x) ∙ ap (λ k. get_or (base ++ all) k x) whole ∙ same in
                let within : n < length all = omega (arith, there.1, whole, length-append base all) in
                ap (λ o. o ++ x ∷ []) is ∙ ap (λ y. take n all ++ y ∷ []) (sym first) ∙ sym (take_more all n x within) ∙ ap (λ k. take k all) (let e : n + 1 ≡ place + 1 - length base = omega (arith, whole) in e)
            | inr nothing ↦ absurd (let z = nothing.1 in cc)
          ]
    ]

-- behind the last nothing is left
pub all_are_added : {X : Type 0} (base all own : List X) (place : ℕ) → own ≡ take (place - length base) all
    → is_some (slice_get (base ++ all) place) ≡ false → own ≡ all
all_are_added base all own place is none =
    elim (slice_get_cases (base ++ all) place).1 [
      | inl there ↦ absurd (let some : is_some (slice_get (base ++ all) place) ≡ true = ap is_some there.2 in cc)
      | inr past ↦ is ∙ take_all (place - length base) all (omega (arith, past.0, length-append base all))
    ]
