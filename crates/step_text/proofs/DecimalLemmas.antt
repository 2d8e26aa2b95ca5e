-- Numbers in decimal, and which octets their digits are not.
use Rattle.std.proofs.Common.{◌≡◌, ◌<◌, ◌≤◌, ℕ, ◌+◌, ◌-◌, ◌*◌, ◌/◌, ◌%◌, ◌^◌, ◌==◌, true, false, List, [], ◌∷◌, ◌++◌, length, refl, sym, Some, arith}
use Rattle.std.specs.Prelude.{not, nat_lt, decimal}
use Rattle.std.specs.List.{list_all}
use Rattle.std.proofs.lemmas.Bool.Decides.{nat_tests}
use Rattle.std.proofs.lemmas.Fmt.{decimal_by_steps}
use Rattle.std.proofs.lemmas.List.Folds.{list_all-append}
use Rattle.std.proofs.lemmas.List.Sums.{fold-append}
use Rattle.base_text.specs.Numbers.{decimal_value, is_digit, number_of}
use Rattle.base_text.proofs.NumberLemmas.{number_of-digits}
use Rattle.step_text.specs.Guess.{large, small}

-- digits that spell a number
pub record Spells (n : ℕ) (digits : List ℕ) : Type 0 where
  pub all : list_all is_digit digits ≡ true
  pub value : decimal_value digits ≡ n
  pub some : (length digits == 0) ≡ false

Spells-one : (n : ℕ) → n < 10 → Spells n ((48 + n) ∷ [])
Spells-one n small = record {
  all = grind (arith, nat_tests);
  value = omega arith;
  some = refl;
}

longer : (digits : List ℕ) (d : ℕ) → (length (digits ++ d ∷ []) == 0) ≡ false
longer [] d = refl
longer (c ∷ digits) d = grind (arith, nat_tests)

Spells-more : (n : ℕ) (digits : List ℕ) → 10 ≤ n → Spells (n / 10) digits → Spells n (digits ++ (48 + n % 10) ∷ [])
Spells-more n digits large front =
    let last : is_digit (48 + n % 10) ≡ true = grind (arith, nat_tests) in
    let whole : decimal_value (digits ++ (48 + n % 10) ∷ []) ≡ decimal_value digits * 10 + (48 + n % 10 - 48) =
    fold-append (λ value digit. value * 10 + (digit - 48)) 0 digits ((48 + n % 10) ∷ []) in
    record {
      all = rw (list_all-append is_digit digits ((48 + n % 10) ∷ []), front.all, last) refl;
      value = omega (arith, whole, front.value);
      some = longer digits (48 + n % 10);
    }

pub Spells-decimal : (n : ℕ) → n < 2 ^ 64 → Spells n (decimal n)
Spells-decimal n fits = decimal_by_steps Spells Spells-one Spells-more n fits

pub number_of-decimal : (n : ℕ) → n < 2 ^ 64 → number_of (decimal n) ≡ Some n
number_of-decimal n fits =
    let spells = Spells-decimal n fits in
    sym (number_of-digits (decimal n) n spells.some spells.all (sym spells.value) fits)

pub small-decimal : (n : ℕ) (words : List (List ℕ)) → n < 2 ^ 32 → small (decimal n ∷ words) ≡ Some n
small-decimal n words fits =
    let below : nat_lt n (2 ^ 32) ≡ true = grind (arith, nat_tests) in
    rw (number_of-decimal n (omega arith), below) refl

-- an octet that isn't a digit is none of a number
no_digit : (k : ℕ) (digits : List ℕ) → is_digit k ≡ false → list_all is_digit digits ≡ true → list_all (λ c. not (c == k)) digits ≡ true
no_digit k [] other all = refl
no_digit k (c ∷ digits) other all = grind (arith, nat_tests, no_digit k digits other)

pub decimal-without : (k n : ℕ) → is_digit k ≡ false → n < 2 ^ 64 → list_all (λ c. not (c == k)) (decimal n) ≡ true
decimal-without k n other fits = no_digit k (decimal n) other (Spells-decimal n fits).all
