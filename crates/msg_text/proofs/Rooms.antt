-- The digits of numbers put into a room.
use Rattle.std.proofs.Common.{◌≡◌, ◌<◌, ◌≤◌, ℕ, ◌+◌, ◌/◌, ◌%◌, ◌^◌, List, [], ◌∷◌, ◌++◌, append_assoc, decimal, length, take, set, sym, ap, ◌∙◌, arith}
use Rattle.std.proofs.lemmas.List.{length-append, take_more_set}
use Rattle.std.proofs.lemmas.Fmt.{decimal_digit, decimal_step, length-decimal-le}
use Rattle.msg_text.specs.Rooms.{Puts}

-- how long a number is
pub length_one : (n : ℕ) → n < 10 → length (decimal n) ≡ 1
length_one n less = ap length (decimal_digit n less)

pub length_more : (n : ℕ) → 10 ≤ n → n < 2 ^ 64 → length (decimal n) ≡ length (decimal (n / 10)) + 1
length_more n most less = ap length (decimal_step n most less) ∙ length-append (decimal (n / 10)) ((48 + n % 10) ∷ [])

-- a number of 64 bits has at most 20 digits
pub length_most : (n : ℕ) → n < 2 ^ 64 → length (decimal n) ≤ 20
length_most n less = length-decimal-le 20 n (omega arith) (omega arith) less

-- a number of one digit
pub Puts-digit : (room : List ℕ) (at n d : ℕ) → n < 10 → at < length room → d ≡ 48 + n → Puts room (set room at d) at (at + 1) (decimal n)
Puts-digit room at n d less fits e =
    take_more_set room at d fits ∙ ap (λ (l : List ℕ). take at room ++ l) (ap (λ (k : ℕ). k ∷ []) e ∙ sym (decimal_digit n less))

-- the last digit of a longer one
pub Puts-digits : (old room : List ℕ) (at end n d : ℕ) → 10 ≤ n → n < 2 ^ 64 → end < length room → d ≡ 48 + n % 10 → Puts old room at end (decimal (n / 10)) → Puts old (set room end d) at (end + 1) (decimal n)
Puts-digits old room at end n d most less fits e puts =
    take_more_set room end d fits
    ∙ ap (λ (l : List ℕ). l ++ d ∷ []) puts
    ∙ append_assoc (take at old) (decimal (n / 10)) (d ∷ [])
    ∙ ap (λ (l : List ℕ). take at old ++ l) (ap (λ (k : ℕ). decimal (n / 10) ++ k ∷ []) e ∙ sym (decimal_step n most less))
