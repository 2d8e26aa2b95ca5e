-- Which number decimal digits spell.
use Rattle.std.specs.Prelude.{ℕ, ◌+◌, ◌*◌, ◌-◌, ◌^◌, ◌&&◌, nat_le, nat_lt, Bool, true, false, List, [], ◌∷◌, fold}
use Rattle.std.specs.Prelude.{Option, Some, None, if◌then◌else◌}
use Rattle.std.specs.List.{list_all}

-- `0` to `9`
abbrev pub is_digit : ℕ → Bool
is_digit c = nat_le 48 c && nat_le c 57

-- there is a character
abbrev pub is_word : List ℕ → Bool
is_word [] = false
is_word (c ∷ cs) = true

-- the number that decimal digits spell, the highest first
abbrev pub decimal_value : List ℕ → ℕ
decimal_value digits = fold (λ value digit. value * 10 + (digit - 48)) 0 digits

-- the number that a word spells: digits alone, at least one, and below 2 ^ 64
unfoldable pub number_of : List ℕ → Option ℕ
number_of word = if is_word word && list_all is_digit word
    && nat_lt (decimal_value word) (2 ^ 64) then Some (decimal_value word) else None
