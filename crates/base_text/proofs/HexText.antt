-- Octets in hexadecimal, one list after another.
use Rattle.std.proofs.Common.{◌≡◌, ◌<◌, ◌≤◌, ℕ, ◌+◌, ◌*◌, ◌/◌, ◌%◌, if◌then◌else◌, List, [], ◌∷◌, ◌++◌, append_assoc, length, map, take, drop, set, get_or, slice_index, refl, ap, ◌∙◌, arith}
use Rattle.std.specs.Prelude.{nat_lt}
use Rattle.std.specs.List.{range_with_len}
use Rattle.std.proofs.lemmas.Bool.{lt-ltb, le-ltb}
use Rattle.std.proofs.lemmas.List.{take_more_set, length-set}
use Rattle.std.proofs.lemmas.List.FromFn.{get_or-map-range_with_len}
use Rattle.std.proofs.Math.Seq.{take-add}
use Rattle.base_text.proofs.Meaning.{take_one}
use Rattle.hex.specs.Hex.{encode_lower, encode_with, lower_digits}

-- no octets are no text
pub encode_lower-nil : encode_lower [] ≡ []
unfolding encode_with
encode_lower-nil = refl

encode_with-append : (table xs ys : List ℕ) → encode_with table (xs ++ ys) ≡ encode_with table xs ++ encode_with table ys
unfolding encode_with
encode_with-append table [] ys = refl
encode_with-append table (x ∷ xs) ys =
    ap (λ text. slice_index table (x / 16) ∷ slice_index table (x % 16) ∷ text) (encode_with-append table xs ys)

-- the text of some octets more is theirs behind the text before
pub encode_lower-more : (octets : List ℕ) (at count : ℕ)
    → encode_lower (take (at + count) octets) ≡ encode_lower (take at octets) ++ encode_lower (take count (drop at octets))
encode_lower-more octets at count = ap encode_lower (take-add at count octets) ∙ encode_with-append lower_digits (take at octets) (take count (drop at octets))

-- the digits of one octet
encode_one : (octet : ℕ) → encode_lower (octet ∷ []) ≡ slice_index lower_digits (octet / 16) ∷ slice_index lower_digits (octet % 16) ∷ []
unfolding encode_with
encode_one octet = refl

-- the digits of one octet more, put behind those before
pub two_more : (room octets : List ℕ) (p h l : ℕ) → p < length octets → 2 * p + 1 < length room → take (2 * p) room ≡ encode_lower (take p octets) → h ≡ slice_index lower_digits (get_or octets p 0 / 16)
    → l ≡ slice_index lower_digits (get_or octets p 0 % 16) → take (2 * (p + 1)) (set (set room (2 * p) h) (2 * p + 1) l) ≡ encode_lower (take (p + 1) octets)
two_more room octets p h l below fits so_far high low =
    let double : 2 * (p + 1) ≡ 2 * p + 1 + 1 = omega arith in
    let first = take_more_set room (2 * p) h (omega arith) in
    let second = take_more_set (set room (2 * p) h) (2 * p + 1) l (rw (length-set room (2 * p) h) fits) in
    let more = encode_lower-more octets p 1 in
    rw (double, second, first, so_far, append_assoc, high, low, more, take_one octets p below, encode_one (get_or octets p 0)) refl

-- a digit by its value
abbrev digit_of : ℕ → ℕ
digit_of value = if nat_lt value 10 then value + 48 else value + 87

digits_are : lower_digits ≡ map digit_of (range_with_len 0 16)
digits_are = refl

digit_at : (value : ℕ) → value < 16 → slice_index lower_digits value ≡ digit_of value
digit_at value below = ap (λ (t : List ℕ). get_or t value 0) digits_are ∙ get_or-map-range_with_len digit_of 0 16 value value 0 below (omega arith)

pub low_digit : (value : ℕ) → value < 10 → value + 48 ≡ slice_index lower_digits value
low_digit value below = rw (digit_at value (omega arith), lt-ltb value 10 below) refl

pub high_digit : (value : ℕ) → value < 16 → 10 ≤ value → value + 87 ≡ slice_index lower_digits value
high_digit value below le = rw (digit_at value below, le-ltb value 10 le) refl
