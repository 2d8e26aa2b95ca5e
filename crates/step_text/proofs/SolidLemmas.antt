-- Words without blanks, and how a line is cut into them.
use Rattle.std.proofs.Common.{◌≡◌, ◌<◌, ℕ, ◌/◌, ◌%◌, ◌==◌, Bool, true, false, List, [], ◌∷◌, ◌++◌, refl, ap, ◌∙◌, Some, zero, suc, cond, arith}
use Rattle.std.specs.Prelude.{◌&&◌, not, slice_index}
use Rattle.std.specs.List.{list_all, slice_split}
use Rattle.std.proofs.lemmas.List.{append-nil}
use Rattle.std.proofs.lemmas.Bool.{eqb-true}
use Rattle.std.proofs.lemmas.Bool.Decides.{nat_tests}
use Rattle.std.proofs.lemmas.List.Folds.{list_all-append}
use Rattle.hex.specs.Hex.{IsBytes, encode_lower, encode_with, hex_digit_value, lower_digits}
use Rattle.hex.proofs.HexLemmas.{IsDigits-lower_digits}
use Rattle.step_text.specs.Names.{is_plain, shown, shown_octet}
use Rattle.step_text.specs.Lines.{behind}

-- a word without blanks
abbrev pub is_solid : List ℕ → Bool
is_solid word = list_all (λ c. not (c == 32)) word

abbrev pub are_solid : List (List ℕ) → Bool
are_solid words = list_all is_solid words

pub and_both : (a b : Bool) → (a && b) ≡ true → (a ≡ true) × (b ≡ true)
and_both true b both = (refl, both)
and_both false b both = absurd (cc)

other_octet : (c : ℕ) → not (c == 32) ≡ true → (c == 32) ≡ false
other_octet c other = elim (c == 32) as (λ b. not b ≡ true → b ≡ false) [ true ↦ λ e. absurd (cc) | false ↦ λ e. refl ] other

-- the first word ends at the first blank
split_first : (word rest : List ℕ) → is_solid word ≡ true → slice_split (λ c. c == 32) (word ++ 32 ∷ rest) ≡ word ∷ slice_split (λ c. c == 32) rest
split_first [] rest solid = refl
split_first (c ∷ word) rest solid =
    let both = and_both (not (c == 32)) (is_solid word) solid in
    rw (other_octet c both.0, split_first word rest both.1) refl

split_last : (word : List ℕ) → is_solid word ≡ true → slice_split (λ c. c == 32) word ≡ word ∷ []
split_last [] solid = refl
split_last (c ∷ word) solid =
    let both = and_both (not (c == 32)) (is_solid word) solid in
    rw (other_octet c both.0, split_last word both.1) refl

-- a line of words is cut into them
pub split-behind : (word : List ℕ) (words : List (List ℕ)) → is_solid word ≡ true → are_solid words ≡ true
    → slice_split (λ c. c == 32) (word ++ behind words) ≡ word ∷ words
split-behind word [] solid others = rw append-nil (split_last word solid)
split-behind word (next ∷ words) solid others =
    let both = and_both (is_solid next) (are_solid words) others in
    split_first word (next ++ behind words) solid ∙ ap (λ rest. word ∷ rest) (split-behind next words both.0 both.1)

-- a hexadecimal digit is no blank
digit_is : (c d : ℕ) → hex_digit_value c ≡ Some d → not (c == 32) ≡ true
digit_is c d is =
    elim (c == 32) as (λ b. (c == 32) ≡ b → not b ≡ true) [ true ↦ λ e. absurd (blank_is_no_digit c d (eqb-true c 32 e) is) | false ↦ λ e. refl ] refl
  where
    blank_is_no_digit : (c d : ℕ) → c ≡ 32 → hex_digit_value c ≡ Some d → ⊥
    blank_is_no_digit c d blank is = cc (ap hex_digit_value blank, is)

digit_solid : (d : ℕ) → d < 16 → not (slice_index lower_digits d == 32) ≡ true
digit_solid d fits = digit_is (slice_index lower_digits d) d (IsDigits-lower_digits d fits)

pub encode_lower-solid : (octets : List ℕ) → IsBytes octets → is_solid (encode_lower octets) ≡ true
unfolding encode_with
encode_lower-solid [] bytes = refl
encode_lower-solid (c ∷ octets) bytes =
    let fits : c < 256 = bytes 0 in
    let high = digit_solid (c / 16) (omega arith) in
    let low = digit_solid (c % 16) (omega arith) in
    rw (high, low, encode_lower-solid octets (λ i. bytes (suc i))) refl

one_octet : (c : ℕ) → c < 256 → IsBytes (c ∷ [])
one_octet c fits zero = fits
one_octet c fits (suc i) = omega arith

plain_solid : (c : ℕ) → is_plain c ≡ true → not (c == 32) ≡ true
plain_solid c plain = grind (arith, nat_tests)

shown_octet-solid : (c : ℕ) → c < 256 → is_solid (shown_octet c) ≡ true
shown_octet-solid c fits = elim (is_plain c) as (λ b. is_plain c ≡ b → is_solid (cond b (c ∷ []) (37 ∷ encode_lower (c ∷ []))) ≡ true) [
  | true ↦ λ e. rw (plain_solid c e) refl
  | false ↦ λ e. encode_lower-solid (c ∷ []) (one_octet c fits)
] refl

pub shown-solid : (name : List ℕ) → IsBytes name → is_solid (shown name) ≡ true
shown-solid [] bytes = refl
shown-solid (c ∷ name) bytes =
    rw (list_all-append (λ c. not (c == 32)) (shown_octet c) (shown name), shown_octet-solid c (bytes 0), shown-solid name (λ i. bytes (suc i))) refl
