-- How names are spelled.
use Rattle.std.specs.Prelude.{ℕ, ◌==◌, ◌&&◌, ◌||◌, not, nat_le, Bool, false, List, [], ◌∷◌, length, codes}
use Rattle.std.specs.List.{list_all}
use Rattle.std.specs.Str.{bytes_eq}
use Rattle.tab_text.specs.declared.limits.TheConstants.{MAX_NAME}

abbrev pub is_letter : ℕ → Bool
is_letter b = (nat_le 65 b && nat_le b 90) || (nat_le 97 b && nat_le b 122)

abbrev pub is_digit : ℕ → Bool
is_digit b = nat_le 48 b && nat_le b 57

-- letters, digits, `-`, `/` and `_`
abbrev pub is_name_byte : ℕ → Bool
is_name_byte b = is_letter b || is_digit b || (b == 45) || (b == 47) || (b == 95)

-- a name's bytes are a letter and then bytes of names
abbrev pub is_spelled : List ℕ → Bool
is_spelled [] = false
is_spelled (b ∷ bs) = is_letter b && list_all is_name_byte bs

-- a name is spelled so, has at most 40 bytes, and is neither `when` nor `and`
unfoldable pub is_name : List ℕ → Bool
is_name octets =
    is_spelled octets && nat_le (length octets) MAX_NAME && not (bytes_eq octets (codes "when"))
    && not (bytes_eq octets (codes "and"))
