-- The text that a port sent, where it is known, and parts of it.
use Rattle.std.specs.Prelude.{◌≡◌, ◌≤◌, ℕ, List, Option, None, Some, ◌++◌, length, take, drop, min}

-- the text stays at the front, and maybe some text comes behind it
abbrev pub Grows : Option (List ℕ) → Option (List ℕ) → Type 0
Grows None None = Unit {0}
Grows (Some text) (Some text') = (more : List ℕ) × (text' ≡ text ++ more)
Grows text text' = ⊥

-- the front of a buffer is the text from a place on, as much as there is and fits
abbrev pub Copies : Option (List ℕ) → ℕ → List ℕ → ℕ → Type 0
Copies None from buffer count = Unit {0}
Copies (Some text) from buffer count =
    (count ≡ min (length (drop from text)) (length buffer)) × (take count buffer ≡ take count (drop from text))

-- these octets stand in the text from a place on
abbrev pub StandsAt : Option (List ℕ) → ℕ → List ℕ → Type 0
StandsAt None from octets = Unit {0}
StandsAt (Some text) from octets = (rest : List ℕ) × (drop from text ≡ octets ++ rest)

-- the text ends at a place, or before it
abbrev pub EndsAt : Option (List ℕ) → ℕ → Type 0
EndsAt None place = Unit {0}
EndsAt (Some text) place = length text ≤ place
