-- Zeros at the end of a list.
use Rattle.std.proofs.Common.{◌≡◌, ℕ, ◌+◌, ◌-◌, ◌≤◌, ◌<◌, List, ◌∷◌, ◌++◌, length, get_or, take, drop, replicate, refl, drop-cons, add-one, set, sym, ◌∙◌, [], append_assoc, arith, ◌+◌, ◌<◌, ap, suc}
use Rattle.std.specs.Int.Bits.{bit_or}
use Rattle.std.proofs.lemmas.Nat.{le_or_l, le_or_r}
use Rattle.std.proofs.lemmas.List.{replicate-append-replicate, take-append-drop, take_more_set, drop-set-lt, drop-drop, length-take-le}
use Rattle.tab_law.specs.declared.limits.TheConstants.{PLACES}
use Rattle.tab_kept.specs.Padded.{padded}

-- a zero before zeros
pub zeros-more : (xs : List ℕ) (n k : ℕ) → n < length xs → get_or xs n 0 ≡ 0 → drop (n + 1) xs ≡ replicate k 0 → drop n xs ≡ replicate (k + 1) 0
zeros-more xs n k within zero zeros =
    let here : drop n xs ≡ get_or xs n 0 ∷ drop (n + 1) xs = rw add-one (drop-cons xs n 0 within) in
    rw (here, zero, zeros, add-one) refl

-- what stands before the zeros, with the zeros again
pub padded-take : (xs : List ℕ) (n : ℕ) → n ≤ length xs → length xs ≡ PLACES → drop n xs ≡ replicate (PLACES - n) 0 → padded (take n xs) ≡ xs
padded-take xs n within whole zeros =
    rw (length-take-le n xs within, ← zeros) (take-append-drop n xs)

-- one more number in front of zeros
pub placed-more : (all places : List ℕ) (place n : ℕ) (rest : List ℕ) → length places ≡ PLACES → place < PLACES → all ≡ take place places ++ n ∷ rest → drop place places ≡ replicate (PLACES - place) 0
    → (all ≡ take (place + 1) (set places place n) ++ rest) × (drop (place + 1) (set places place n) ≡ replicate (PLACES - (place + 1)) 0)
placed-more all places place n rest whole within split zeros =
    let inside : place < length places = omega (arith, whole, within) in
    let front : take (place + 1) (set places place n) ≡ take place places ++ n ∷ [] = take_more_set places place n inside in
    let more : PLACES - place ≡ suc (PLACES - (place + 1)) = omega (arith, within) in
    let after : drop (place + 1) (set places place n) ≡ drop (place + 1) places = drop-set-lt (place + 1) places place n (omega arith) in
    let one : drop 1 (drop place places) ≡ drop (place + 1) places = drop-drop 1 place places in
    let tail : drop 1 (drop place places) ≡ replicate (PLACES - (place + 1)) 0 = ap (drop 1) zeros ∙ ap (λ (n : ℕ). drop 1 (replicate n 0)) more in
    (split ∙ sym (rw (front, append_assoc) refl), after ∙ sym one ∙ tail)

-- the next of some numbers, and the others
next-taken : (xs : List ℕ) (n m k : ℕ) → n < length xs → m ≡ n + 1 → take (suc k) (drop n xs) ≡ get_or xs n 0 ∷ take k (drop m xs)
next-taken xs n m k within next =
    let here : drop n xs ≡ get_or xs n 0 ∷ drop (n + 1) xs = rw add-one (drop-cons xs n 0 within) in
    ap (take (suc k)) here ∙ ap (λ (i : ℕ). get_or xs n 0 ∷ take k (drop i xs)) (sym next)

-- eight numbers of a list, one by one
pub eight-taken : (xs : List ℕ) (n : ℕ) → n + 8 ≤ length xs → take 8 (drop n xs)
    ≡ get_or xs n 0 ∷ get_or xs (n + 1) 0 ∷ get_or xs (n + 2) 0 ∷ get_or xs (n + 3) 0
    ∷ get_or xs (n + 4) 0 ∷ get_or xs (n + 5) 0 ∷ get_or xs (n + 6) 0 ∷ get_or xs (n + 7) 0 ∷ []
eight-taken xs n within =
    let t0 = next-taken xs n (n + 1) 7 (omega (arith, within)) (omega arith) in
    let t1 = next-taken xs (n + 1) (n + 2) 6 (omega (arith, within)) (omega arith) in
    let t2 = next-taken xs (n + 2) (n + 3) 5 (omega (arith, within)) (omega arith) in
    let t3 = next-taken xs (n + 3) (n + 4) 4 (omega (arith, within)) (omega arith) in
    let t4 = next-taken xs (n + 4) (n + 5) 3 (omega (arith, within)) (omega arith) in
    let t5 = next-taken xs (n + 5) (n + 6) 2 (omega (arith, within)) (omega arith) in
    let t6 = next-taken xs (n + 6) (n + 7) 1 (omega (arith, within)) (omega arith) in
    let t7 = next-taken xs (n + 7) (n + 8) 0 (omega (arith, within)) (omega arith) in
    rw (t0, t1, t2, t3, t4, t5, t6, t7) refl

-- the bits of eight numbers together
abbrev pub joined : ℕ → ℕ → ℕ → ℕ → ℕ → ℕ → ℕ → ℕ → ℕ
joined a b c d e f g h = bit_or (bit_or (bit_or (bit_or (bit_or (bit_or (bit_or a b) c) d) e) f) g) h

or-left : (a b : ℕ) → bit_or a b ≡ 0 → a ≡ 0
or-left a b none = omega (arith, le_or_l a b, none)

or-right : (a b : ℕ) → bit_or a b ≡ 0 → b ≡ 0
or-right a b none = omega (arith, le_or_r a b, none)

-- where they have no bit they are zero
pub none-joined : (a b c d e f g h : ℕ) → joined a b c d e f g h ≡ 0 → a ∷ b ∷ c ∷ d ∷ e ∷ f ∷ g ∷ h ∷ [] ≡ replicate 8 0
none-joined a b c d e f g h none =
    let to-g = or-left _ h none in
    let to-f = or-left _ g to-g in
    let to-e = or-left _ f to-f in
    let to-d = or-left _ e to-e in
    let to-c = or-left _ d to-d in
    let to-b = or-left _ c to-c in
    rw (or-left a b to-b, or-right a b to-b, or-right _ c to-c, or-right _ d to-d, or-right _ e to-e, or-right _ f to-f, or-right _ g to-g, or-right _ h none) refl

-- zeros have no bit
pub joined-none : (a b c d e f g h : ℕ) → a ∷ b ∷ c ∷ d ∷ e ∷ f ∷ g ∷ h ∷ [] ≡ replicate 8 0 → joined a b c d e f g h ≡ 0
joined-none a b c d e f g h zeros =
    let at : (i : ℕ) → get_or (a ∷ b ∷ c ∷ d ∷ e ∷ f ∷ g ∷ h ∷ []) i 0 ≡ get_or (replicate 8 0) i 0 = λ i. ap (λ (xs : List ℕ). get_or xs i 0) zeros in
    rw (at 0, at 1, at 2, at 3, at 4, at 5, at 6, at 7) refl

-- eight zeros before zeros
pub zeros-eight : (xs : List ℕ) (n k : ℕ) → take 8 (drop n xs) ≡ replicate 8 0 → drop (n + 8) xs ≡ replicate k 0 → drop n xs ≡ replicate (8 + k) 0
zeros-eight xs n k eight zeros =
    sym (take-append-drop 8 (drop n xs)) ∙ rw (eight, drop-drop 8 n xs, zeros) (replicate-append-replicate 8 k 0)
