-- What a text of hexadecimal digits means, however it is cut.
use Rattle.std.specs.Prelude.{◌≡◌, ◌<◌, ℕ, ◌/◌, ◌%◌, ◌==◌, ◌||◌, Bool, List, [], ◌∷◌, ◌++◌, Option}
use Rattle.std.specs.List.{filter_map, AllPass}
use Rattle.std.specs.Option.{option_to_list, ForSome}
use Rattle.hex.specs.Hex.{hex_digit_value, is_hex_digit}

-- what may stand between digits: space, tab, newline, carriage return
abbrev pub is_blank : ℕ → Bool
is_blank c = c == 32 || c == 9 || c == 10 || c == 13

-- a digit of either case, or a blank
abbrev pub is_hex_text : ℕ → Bool
is_hex_text c = is_hex_digit c || is_blank c

-- two digits for each octet, the high four bits first
abbrev pub halves : List ℕ → List ℕ
halves [] = []
halves (octet ∷ octets) = octet / 16 ∷ octet % 16 ∷ halves octets

-- The digit that was left over, and then the digits of the text, are two for each of these octets, and then the
-- digit that is left over.
pub record Means (before : Option ℕ) (text octets : List ℕ) (after : Option ℕ) : Type 0 where
  pub clean : AllPass is_hex_text text
  pub joined : option_to_list before ++ filter_map hex_digit_value text ≡ halves octets ++ option_to_list after
  pub digit_fits : ForSome after (λ digit. digit < 16)
