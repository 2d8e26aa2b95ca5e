-- The name that is near a word.
use Rattle.std.specs.Prelude.{ℕ, ◌&&◌, Bool, List, [], ◌++◌, Option, None, codes, length, nat_eq}
use Rattle.std.specs.Prelude.{nat_le, option_map, if◌then◌else◌}
use Rattle.std.specs.List.{find}
use Rattle.std.specs.Option.{option_map_or, option_or}
use Rattle.base_list.specs.declared.named.Named.{Named}
use Rattle.strsim.specs.Edits.{levenshtein_row}

-- the least number of octets that are put in, taken out or replaced to make a name of a word
abbrev pub distance : (word name : List ℕ) → ℕ
distance word name = levenshtein_row nat_eq word name (length name)

-- a name is made of a word with so many of these at most
abbrev pub is_near : {T : Type 0} → ℕ → List ℕ → Named T → Bool
is_near limit word entry = nat_le (distance word entry.name) limit

-- the first name so near
abbrev pub first_near : {T : Type 0} → ℕ → List ℕ → List (Named T) → Option (List ℕ)
first_near limit word entries = option_map (λ entry. entry.name) (find (is_near limit word) entries)

-- the first name that is one off, or else two, where the word is long;
-- words of other lengths than those of names have none, nor have short ones
unfoldable pub nearest : {T : Type 0} → List ℕ → List (Named T) → Option (List ℕ)
nearest word entries =
    if nat_le 4 (length word) && nat_le (length word) 40
    then option_or (first_near 1 word entries) (if nat_le 8 (length word) then first_near 2 word entries else None)
    else None

-- it, on a line of its own
abbrev pub nearest_line : {T : Type 0} → List ℕ → List (Named T) → List ℕ
nearest_line word entries = option_map_or (λ name. codes "  nearest: " ++ name ++ codes "\n") (nearest word entries) []
