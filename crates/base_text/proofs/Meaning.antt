-- What a text of digits means after one more character, and after one more text.
use Rattle.std.proofs.Common.{◌≡◌, ◌<◌, ℕ, ◌+◌, ◌/◌, ◌%◌, true, List, [], ◌∷◌, ◌++◌, length, take, drop, get_or, drop-cons, add-one, Option, Some, None, refl, sym, ap, ◌∙◌, arith, append_assoc}
use Rattle.std.specs.Prelude.{option_to_list}
use Rattle.std.specs.Option.{ForSome}
use Rattle.std.proofs.lemmas.List.{append-nil, take-append-drop}
use Rattle.std.proofs.lemmas.List.Elements.{All-append, All-nil, filter_map-append}
use Rattle.std.proofs.Math.Seq.{take-add}
use Rattle.hex.specs.Hex.{hex_digit_value}
use Rattle.base_text.specs.Digits.{is_hex_text, halves, Means}

-- the digits of octets in a row are their digits in a row
pub halves-append : (xs ys : List ℕ) → halves (xs ++ ys) ≡ halves xs ++ halves ys
halves-append [] ys = refl
halves-append (x ∷ xs) ys = ap (λ zs. x / 16 ∷ x % 16 ∷ zs) (halves-append xs ys)

-- no text means no octets
pub Means-nothing : (half : Option ℕ) → ForSome half (λ digit. digit < 16) → Means half [] [] half
Means-nothing half fits = record {
  clean = All-nil (λ c. is_hex_text c ≡ true);
  joined = append-nil (option_to_list half);
  digit_fits = fits;
}

-- the parts of a text mean what the whole means
pub Means-append : (before between after : Option ℕ) (text more octets others : List ℕ)
    → Means before text octets between → Means between more others after → Means before (text ++ more) (octets ++ others) after
Means-append before between after text more octets others first second = record {
  clean = All-append (λ c. is_hex_text c ≡ true) text more first.clean second.clean;
  joined =
      rw (filter_map-append hex_digit_value text more, ← append_assoc, first.joined, append_assoc, second.joined, ← append_assoc, halves-append octets others) refl;
  digit_fits = second.digit_fits;
}

-- octets and a digit left over are found from their digits
one_list : (xs ys : List ℕ) (a b : Option ℕ) → halves xs ++ option_to_list a ≡ halves ys ++ option_to_list b
    → (xs ≡ ys) × (a ≡ b)
one_list [] [] None None e = (refl, refl)
one_list [] [] None (Some y) e = absurd (cc)
one_list [] [] (Some x) None e = absurd (cc)
one_list [] [] (Some x) (Some y) e = (refl, cc)
one_list [] (y ∷ ys) None b e = absurd (cc)
one_list [] (y ∷ ys) (Some x) b e = absurd (cc)
one_list (x ∷ xs) [] a None e = absurd (cc)
one_list (x ∷ xs) [] a (Some y) e = absurd (cc)
one_list (x ∷ xs) (y ∷ ys) a b e =
    let high : x / 16 ≡ y / 16 = cc in
    let low : x % 16 ≡ y % 16 = cc in
    let tails : halves xs ++ option_to_list a ≡ halves ys ++ option_to_list b = cc in
    let same : x ≡ y = omega arith in
    let rest = one_list xs ys a b tails in
    (rw (same, rest.0) refl, rest.1)

-- a text has one meaning
pub Means-one : (before after other : Option ℕ) (text octets others : List ℕ)
    → Means before text octets after → Means before text others other → (octets ≡ others) × (after ≡ other)
Means-one before after other text octets others first second =
    one_list octets others after other (sym first.joined ∙ second.joined)

-- a text means what a front of it means, and then what comes behind
pub Means-more : (before between after : Option ℕ) (text octets more : List ℕ) (used count : ℕ)
    → Means before (take used text) octets between → Means between (take count (drop used text)) more after
    → Means before (take (used + count) text) (octets ++ more) after
Means-more before between after text octets more used count first second =
    rw (take-add used count text) (Means-append before between after (take used text) (take count (drop used text)) octets more first second)

-- some text, and then a front of the rest of it
pub front_more : (used rest : List ℕ) (n : ℕ) → used ++ rest ≡ (used ++ take n rest) ++ drop n rest
front_more used rest n = rw (append_assoc, take-append-drop) refl

-- the rest of a list is what stands at a place, and what comes after
pub cut_at : (xs : List ℕ) (i : ℕ) → i < length xs → drop i xs ≡ get_or xs i 0 ∷ drop (i + 1) xs
cut_at xs i below = rw (add-one, ← drop-cons xs i 0) refl

-- what stands at a place, and what stands at the next
pub take_one : (xs : List ℕ) (i : ℕ) → i < length xs → take 1 (drop i xs) ≡ get_or xs i 0 ∷ []
take_one xs i below = rw (cut_at xs i below) refl

pub take_two : (xs : List ℕ) (i : ℕ) → i + 1 < length xs → take 2 (drop i xs) ≡ get_or xs i 0 ∷ get_or xs (i + 1) 0 ∷ []
take_two xs i below = rw (cut_at xs i (omega arith), cut_at xs (i + 1) below) refl
