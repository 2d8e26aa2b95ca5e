-- What the words of a line are as numbers.
use Rattle.std.proofs.Common.{◌≡◌, ◌<◌, ◌≤◌, ℕ, zero, suc, ◌+◌, ◌*◌, ◌-◌, ◌^◌, ◌==◌, Bool, true, false, List, [], ◌∷◌, length, take, drop, get_or, Some, None, refl, sym, ap, ◌∙◌, arith}
use Rattle.std.specs.Prelude.{◌&&◌, nat_lt, fold}
use Rattle.std.specs.List.{list_all}
use Rattle.std.proofs.lemmas.Bool.{eqb-true}
use Rattle.std.proofs.lemmas.Bool.Decides.{nat_tests}
use Rattle.std.proofs.lemmas.List.{take-append-drop}
use Rattle.std.proofs.lemmas.List.Sums.{fold-append}
use Rattle.base_text.specs.Numbers.{is_digit, is_word}
use Rattle.base_text.specs.Numbers.{decimal_value, number_of}

and_false : (a b : Bool) → b ≡ false → (a && b) ≡ false
and_false true b is = is
and_false false b is = refl

and_second : (a b c : Bool) → b ≡ false → (a && b && c) ≡ false
and_second true false c is = refl
and_second true true c is = absurd (cc)
and_second false b c is = refl

-- a list with an element that doesn't pass
list_all-false : (p : ℕ → Bool) (xs : List ℕ) (i : ℕ) → i < length xs → p (get_or xs i 0) ≡ false → list_all p xs ≡ false
list_all-false p [] i below fails = absurd (omega arith)
list_all-false p (x ∷ xs) zero below fails = rw fails refl
list_all-false p (x ∷ xs) (suc i) below fails = and_false (p x) (list_all p xs) (list_all-false p xs i (omega arith) fails)

-- more digits spell no smaller number
fold-grows : (start : ℕ) (digits : List ℕ) → start ≤ fold (λ value digit. value * 10 + (digit - 48)) start digits
fold-grows start [] = omega arith
fold-grows start (d ∷ ds) =
    let rest = fold-grows (start * 10 + (d - 48)) ds in
    omega arith

decimal_value-take : (word : List ℕ) (i : ℕ) → decimal_value (take i word) ≤ decimal_value word
decimal_value-take word i =
    let whole : decimal_value word ≡ fold (λ value digit. value * 10 + (digit - 48)) (decimal_value (take i word)) (drop i word) =
    ap decimal_value (sym (take-append-drop i word)) ∙ fold-append (λ value digit. value * 10 + (digit - 48)) 0 (take i word) (drop i word) in
    let grows = fold-grows (decimal_value (take i word)) (drop i word) in
    omega arith

-- no word is no number
pub number_of-empty : (word : List ℕ) → (length word == 0) ≡ true → None ≡ number_of word
unfolding number_of
number_of-empty [] empty = refl
number_of-empty (c ∷ cs) empty = let some = eqb-true _ _ empty in absurd (omega arith)

-- a word with another character is no number
pub number_of-other : (word : List ℕ) (i : ℕ) → i < length word → is_digit (get_or word i 0) ≡ false → None ≡ number_of word
unfolding number_of
number_of-other word i below other =
    let fails = and_second (is_word word) (list_all is_digit word) (nat_lt (decimal_value word) (2 ^ 64)) (list_all-false is_digit word i below other) in
    rw fails refl

-- a word whose front spells too large a number is none
pub number_of-large : (word : List ℕ) (i : ℕ) → 2 ^ 64 ≤ decimal_value (take i word) → None ≡ number_of word
unfolding number_of
number_of-large word i large =
    let grows = decimal_value-take word i in
    let fails : nat_lt (decimal_value word) (2 ^ 64) ≡ false = grind (arith, nat_tests) in
    rw (and_false (is_word word && list_all is_digit word) _ fails) refl

is_word-some : (word : List ℕ) → (length word == 0) ≡ false → is_word word ≡ true
is_word-some [] some = absurd (cc)
is_word-some (c ∷ cs) some = refl

-- digits alone that spell a number below 2 ^ 64
pub number_of-digits : (word : List ℕ) (value : ℕ) → (length word == 0) ≡ false → list_all is_digit word ≡ true
    → value ≡ decimal_value word → value < 2 ^ 64 → Some value ≡ number_of word
unfolding number_of
number_of-digits word value some digits is fits =
    let below : nat_lt (decimal_value word) (2 ^ 64) ≡ true = rw (← is) (grind (arith, nat_tests)) in
    rw (is_word-some word some, digits, below, is) refl
