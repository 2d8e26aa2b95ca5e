-- The table of the digits' values.
use Rattle.std.proofs.Common.{◌≡◌, ◌<◌, ◌≤◌, ℕ, map, get_or, Option, Some, None, refl, ap, ◌∙◌, arith}
use Rattle.std.specs.List.{range_with_len}
use Rattle.std.proofs.lemmas.List.FromFn.{get_or-map-range_with_len}
use Rattle.hex.specs.Hex.{hex_digit_value}
use Rattle.base_text.specs.declared.digits.TheConstants.{VALUES}

-- what stands in the table for a value
abbrev mark_of : Option ℕ → ℕ
mark_of None = 16
mark_of (Some value) = value

abbrev mark : ℕ → ℕ
mark c = mark_of (hex_digit_value c)

-- the table has the mark of each character
table_is : VALUES ≡ map mark (range_with_len 0 256)
table_is = refl

mark_at : (c : ℕ) → c < 256 → get_or VALUES c 0 ≡ mark c
mark_at c below = ap (λ t. get_or t c 0) table_is ∙ get_or-map-range_with_len mark 0 256 c c 0 below (omega arith)

value_of_mark : (found : Option ℕ) → mark_of found < 16 → Some (mark_of found) ≡ found
value_of_mark None below = absurd (omega arith)
value_of_mark (Some value) below = refl

-- a mark below 16 is the digit's value
pub value_read : (c : ℕ) → c < 256 → get_or VALUES c 0 < 16 → Some (get_or VALUES c 0) ≡ hex_digit_value c
value_read c below small = rw (mark_at c below) (value_of_mark (hex_digit_value c) (rw (← mark_at c below) small))

none_of_mark : (c : ℕ) → 16 ≤ mark c → None ≡ hex_digit_value c
none_of_mark c large = grind (arith)

-- no other mark is of a digit
pub value_refused : (c : ℕ) → c < 256 → 16 ≤ get_or VALUES c 0 → None ≡ hex_digit_value c
value_refused c below large = none_of_mark c (rw (← mark_at c below) large)
