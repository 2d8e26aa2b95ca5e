-- Numbers that are kept in octets are read again.
use Rattle.std.proofs.Common.{◌≡◌, ℕ, suc, ◌+◌, ◌-◌, ◌<◌, ◌≤◌, ◌^◌, Bool, true, false, List, [], ◌∷◌, ◌++◌, length, take, drop, get_or, nat_lt, refl, ap, sym, ◌∙◌, arith, replicate, subst}
use Rattle.std.specs.Prelude.{All, ◌==◌, if◌then◌else◌}
use Rattle.std.specs.Int.{w16, w32, w64, to_le_bytes}
use Rattle.std.proofs.lemmas.Bool.{ltb-true, ne_eqb}
use Rattle.std.proofs.lemmas.List.{take_more, append-nil, length-take-le}
use Rattle.std.proofs.lemmas.List.Elements.{All-tail}
use Rattle.std.proofs.lemmas.Grind.{flat_map-append}
use Rattle.std.proofs.lemmas.Nat.{from_le_bytes-to_le_bytes_2, from_le_bytes-to_le_bytes_4, from_le_bytes-to_le_bytes_8}
use Rattle.tab_law.specs.declared.limits.TheConstants.{PLACES}
use Rattle.tab_kept.specs.Padded.{padded}
use Rattle.tab_kept.proofs.PlacesLemmas.{padded-take}
use Rattle.tab_kept.specs.Coded.{code, coded, first, behind, decoded}

-- the octets of a number by the tests on it
form : Bool → Bool → Bool → ℕ → List ℕ
form a b c n = if a then n ∷ [] else (if b then 253 ∷ to_le_bytes w16 n else (if c then 254 ∷ to_le_bytes w32 n else 255 ∷ to_le_bytes w64 n))

-- a first octet below 253 is the number
octet-first : (n : ℕ) (rest : List ℕ) → n < 253 → (first (n ∷ rest) ≡ n) × (behind (n ∷ rest) ≡ rest)
octet-first n rest small =
    let two : (n == 253) ≡ false = ne_eqb n 253 (λ e. omega (arith, e, small)) in
    let four : (n == 254) ≡ false = ne_eqb n 254 (λ e. omega (arith, e, small)) in
    let eight : (n == 255) ≡ false = ne_eqb n 255 (λ e. omega (arith, e, small)) in
    (rw (two, four, eight) refl, rw (two, four, eight) refl)

form-first : (a b c : Bool) (n : ℕ) (rest : List ℕ) → (a ≡ true → n < 253) → (b ≡ true → n < 65536) → (c ≡ true → n < 4294967296) → n < 2 ^ 64 → first (form a b c n ++ rest) ≡ n
unfolding form
form-first true b c n rest one two four fits = (octet-first n rest (one refl)).0
form-first false true c n rest one two four fits = from_le_bytes-to_le_bytes_2 n (two refl)
form-first false false true n rest one two four fits = from_le_bytes-to_le_bytes_4 n (four refl)
form-first false false false n rest one two four fits = from_le_bytes-to_le_bytes_8 n fits

form-behind : (a b c : Bool) (n : ℕ) (rest : List ℕ) → (a ≡ true → n < 253) → behind (form a b c n ++ rest) ≡ rest
unfolding form
form-behind true b c n rest one = (octet-first n rest (one refl)).1
form-behind false true c n rest one = refl
form-behind false false true n rest one = refl
form-behind false false false n rest one = refl

-- the first number is read again
pub first-code : (n : ℕ) (rest : List ℕ) → n < 2 ^ 64 → first (code n ++ rest) ≡ n
unfolding form
first-code n rest fits = form-first (nat_lt n 253) (nat_lt n 65536) (nat_lt n 4294967296) n rest (ltb-true _ _) (ltb-true _ _) (ltb-true _ _) fits

pub behind-code : (n : ℕ) (rest : List ℕ) → behind (code n ++ rest) ≡ rest
unfolding form
behind-code n rest = form-behind (nat_lt n 253) (nat_lt n 65536) (nat_lt n 4294967296) n rest (ltb-true _ _)

form-short : (a b c : Bool) (n : ℕ) → length (form a b c n) ≤ 9
unfolding form
form-short true b c n = omega arith
form-short false true c n = omega arith
form-short false false true n = omega arith
form-short false false false n = omega arith

-- a number has nine octets at most
pub code-short : (n : ℕ) → length (code n) ≤ 9
unfolding form
code-short n = form-short (nat_lt n 253) (nat_lt n 65536) (nat_lt n 4294967296) n

-- one more number
pub coded-more : (numbers : List ℕ) (i n : ℕ) → i < length numbers → n ≡ get_or numbers i 0 → coded (take (i + 1) numbers) ≡ coded (take i numbers) ++ code n
coded-more numbers i n within here =
    let front : take (i + 1) numbers ≡ take i numbers ++ n ∷ [] = take_more numbers i 0 within ∙ ap (λ (x : ℕ). take i numbers ++ x ∷ []) (sym here) in
    ap coded front ∙ flat_map-append code (take i numbers) (n ∷ []) ∙ ap (λ (xs : List ℕ). coded (take i numbers) ++ xs) (append-nil (code n))

-- numbers are read again
pub decoded-coded : (numbers : List ℕ) → All (λ n. n < 2 ^ 64) numbers → decoded (length numbers) (coded numbers) ≡ numbers
decoded-coded [] fit = refl
decoded-coded (n ∷ ns) fit =
    let own : n < 2 ^ 64 = fit 0 0 (omega arith) in
    let others : All (λ (m : ℕ). m < 2 ^ 64) ns = All-tail (λ (m : ℕ). m < 2 ^ 64) n ns fit in
    rw (first-code n (coded ns) own, behind-code n (coded ns), decoded-coded ns others) refl

-- the first number, and those behind it
pub decoded-next : (count place : ℕ) (s : List ℕ) → place < count → decoded (count - place) s ≡ first s ∷ decoded (count - (place + 1)) (behind s)
decoded-next count place s within =
    let more : count - place ≡ suc (count - (place + 1)) = omega (arith, within) in
    ap (λ (n : ℕ). decoded n s) more

-- what was kept is what is shown
pub kept-again : (places octets : List ℕ) (count : ℕ) → length places ≡ PLACES → count ≤ PLACES → drop count places ≡ replicate (PLACES - count) 0
    → octets ≡ coded (take count places) → All (λ n. n < 2 ^ 64) (take count places) → padded (decoded count octets) ≡ places
kept-again places octets count whole within zeros kept fit =
    let short : count ≤ length places = omega (arith, whole, within) in
    let counted : length (take count places) ≡ count = length-take-le count places short in
    let read : decoded count octets ≡ take count places = rw (kept) (subst (λ (n : ℕ). decoded n (coded (take count places)) ≡ take count places) counted (decoded-coded (take count places) fit)) in
    ap padded read ∙ padded-take places count short whole zeros
