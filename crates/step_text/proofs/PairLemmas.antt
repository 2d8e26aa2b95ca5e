-- A word is hexadecimal digits exactly where it is pairs of them, and these are its octets.
use Rattle.std.proofs.Common.{◌≡◌, ◌==◌, ◌&&◌, ◌+◌, ◌*◌, ◌%◌, ℕ, Bool, true, false, cond, List, [], ◌∷◌, length, Option, Some, None, Result, Ok, Err, refl, ap, arith}
use Rattle.std.specs.Prelude.{is_some, unwrap_or}
use Rattle.std.proofs.lemmas.Bool.{eqb-true}
use Rattle.hex.specs.Hex.{decode_of, decode_pairs, digit_or_error, hex_digit_value, ◌>>=◌}
use Rattle.hex.specs.declared.error.FromHexError.{FromHexError}
use Rattle.step_text.specs.Guess.{decoded}
use Rattle.step_text.specs.Shown.{are_pairs, octets_in}

-- the octets, where they are pairs
abbrev piece_with : Bool → List ℕ → Option (List ℕ)
piece_with pairs octets = cond pairs (Some octets) None

pair_read : (high low i : ℕ) (a b : Option ℕ) (r : Result (List ℕ) FromHexError) (pairs : Bool) (octets : List ℕ) → decoded r ≡ piece_with pairs octets
    → decoded ((digit_or_error high i a >>= (λ x. digit_or_error low (i + 1) b >>= (λ y. Ok (x * 16 + y)))) >>= (λ byte. r >>= (λ bytes. Ok (byte ∷ bytes))))
    ≡ piece_with (is_some a && is_some b && pairs) ((unwrap_or a 0 * 16 + unwrap_or b 0) ∷ octets)
pair_read high low i (Some x) (Some y) (Ok bytes) true octets is = let same : bytes ≡ octets = cc in ap (λ bs. Some ((x * 16 + y) ∷ bs)) same
pair_read high low i (Some x) (Some y) (Ok bytes) false octets is = absurd (cc)
pair_read high low i (Some x) (Some y) (Err e) true octets is = absurd (cc)
pair_read high low i (Some x) (Some y) (Err e) false octets is = refl
pair_read high low i (Some x) None r pairs octets is = refl
pair_read high low i None b r pairs octets is = refl

pairs_read : (i : ℕ) (digits : List ℕ) → decoded (decode_pairs i digits) ≡ piece_with (are_pairs digits) (octets_in digits)
unfolding decode_pairs
pairs_read i [] = refl
pairs_read i (digit ∷ []) = refl
pairs_read i (high ∷ low ∷ others) =
    pair_read high low i (hex_digit_value high) (hex_digit_value low) (decode_pairs (i + 2) others) (are_pairs others) (octets_in others) (pairs_read (i + 2) others)

and_false : (a b : Bool) → (a && b && false) ≡ false
and_false true true = refl
and_false true false = refl
and_false false b = refl

odd_is_none : (digits : List ℕ) → length digits % 2 ≡ 1 → are_pairs digits ≡ false
odd_is_none [] odd = absurd (omega arith)
odd_is_none (digit ∷ []) odd = refl
odd_is_none (high ∷ low ∷ others) odd =
    let less : length others % 2 ≡ 1 = omega arith in
    rw (odd_is_none others less) (and_false (is_some (hex_digit_value high)) (is_some (hex_digit_value low)))

by_length : (digits : List ℕ) (b : Bool) → (length digits % 2 == 1) ≡ b → decoded (decode_of digits) ≡ piece_with (are_pairs digits) (octets_in digits)
by_length digits true odd = rw (odd, odd_is_none digits (eqb-true _ _ odd)) refl
by_length digits false even = rw even (pairs_read 0 digits)

pub pairs_are : (digits : List ℕ) → decoded (decode_of digits) ≡ cond (are_pairs digits) (Some (octets_in digits)) None
pairs_are digits = by_length digits (length digits % 2 == 1) refl
