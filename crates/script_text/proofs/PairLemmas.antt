-- A word is hexadecimal digits exactly where it is pairs of them.
use Rattle.std.proofs.Common.{◌≡◌, ◌==◌, ◌&&◌, ◌+◌, ◌*◌, ◌%◌, ℕ, Bool, true, false, List, [], ◌∷◌, length, Option, Some, None, Result, Ok, Err, refl, ap, ◌∙◌, arith}
use Rattle.std.specs.Prelude.{is_some}
use Rattle.std.proofs.lemmas.Bool.{eqb-true}
use Rattle.hex.specs.Hex.{decode_of, decode_pairs, digit_or_error, hex_digit_value, ◌>>=◌}
use Rattle.hex.specs.declared.error.FromHexError.{FromHexError}
use Rattle.script_text.specs.Keys.{octet_of, octet_with}
use Rattle.script_text.proofs.NameLemmas.{none_by}
use Rattle.script_text.specs.Scripts.{decoded, is_pairs, piece_of}

pair_read : (high low i : ℕ) (a b : Option ℕ) (r : Result (List ℕ) FromHexError)
    → is_some (decoded ((digit_or_error high i a >>= (λ x. digit_or_error low (i + 1) b >>= (λ y. Ok (x * 16 + y)))) >>= (λ byte. r >>= (λ bytes. Ok (byte ∷ bytes)))))
    ≡ (is_some (octet_with a b) && is_some (decoded r))
pair_read high low i (Some x) (Some y) (Ok bytes) = refl
pair_read high low i (Some x) (Some y) (Err e) = refl
pair_read high low i (Some x) None r = refl
pair_read high low i None b r = refl

pairs_read : (i : ℕ) (digits : List ℕ) → is_some (decoded (decode_pairs i digits)) ≡ is_pairs digits
unfolding decode_pairs
pairs_read i [] = refl
pairs_read i (digit ∷ []) = refl
pairs_read i (high ∷ low ∷ others) =
    pair_read high low i (hex_digit_value high) (hex_digit_value low) (decode_pairs (i + 2) others)
    ∙ ap (λ (b : Bool). is_some (octet_of high low) && b) (pairs_read (i + 2) others)

and_false : (a : Bool) → (a && false) ≡ false
and_false true = refl
and_false false = refl

odd_is_none : (digits : List ℕ) → length digits % 2 ≡ 1 → is_pairs digits ≡ false
odd_is_none [] odd = absurd (omega arith)
odd_is_none (digit ∷ []) odd = refl
odd_is_none (high ∷ low ∷ others) odd =
    let less : length others % 2 ≡ 1 = omega arith in
    rw (odd_is_none others less) (and_false (is_some (octet_of high low)))

by_length : (digits : List ℕ) (b : Bool) → (length digits % 2 == 1) ≡ b → is_some (decoded (decode_of digits)) ≡ is_pairs digits
by_length digits true odd = rw (odd, odd_is_none digits (eqb-true _ _ odd)) refl
by_length digits false even = rw even (pairs_read 0 digits)

pub pairs_are : (digits : List ℕ) → is_some (piece_of digits) ≡ is_pairs digits
unfolding piece_of
pairs_are digits = by_length digits (length digits % 2 == 1) refl

pub no_piece : (digits : List ℕ) → is_pairs digits ≡ false → piece_of digits ≡ None
no_piece digits e = none_by (piece_of digits) (pairs_are digits ∙ e)
