-- The words of a line.
use Rattle.std.specs.Prelude.{ℕ, ◌+◌, ◌==◌, ◌||◌, Bool, true, false, List, []}
use Rattle.std.specs.Prelude.{◌∷◌, length, filter, reverse, if◌then◌else◌}
use Rattle.std.specs.List.{slice_split, flat_map}

-- a word, and the byte at which it begins
pub record Word : Type 0 where
  pub at : ℕ
  pub octets : List ℕ

-- pieces with a blank between, each with the byte at which it begins
abbrev pub placed_from : ℕ → List (List ℕ) → List Word
placed_from at [] = []
placed_from at (piece ∷ pieces) = record { at = at; octets = piece } ∷ placed_from (at + length piece + 1) pieces

abbrev pub is_word : List ℕ → Bool
is_word [] = false
is_word (b ∷ bs) = true

-- the words of a line: what stands between its blanks
unfoldable pub words : List ℕ → List Word
words octets = filter (λ word. is_word word.octets) (placed_from 0 (slice_split (λ b. b == 32) octets))

-- a comma stands between blanks
abbrev pub apart : List ℕ → List ℕ
apart octets = flat_map (λ b. if b == 44 then 32 ∷ 44 ∷ 32 ∷ [] else b ∷ []) octets

-- the words of a cell: what stands between its blanks, where a comma is a word by itself
unfoldable pub tokens : List ℕ → List (List ℕ)
tokens cell = filter is_word (slice_split (λ b. b == 32) (apart cell))

-- a word of a cell ends at a blank or a comma
abbrev pub is_token_end : ℕ → Bool
is_token_end b = (b == 32) || (b == 44)

-- without the blanks in front
abbrev pub trimmed_front : List ℕ → List ℕ
trimmed_front [] = []
trimmed_front (b ∷ bs) = if b == 32 then trimmed_front bs else b ∷ bs

-- without the blanks behind
abbrev pub trimmed_back : List ℕ → List ℕ
trimmed_back octets = reverse (trimmed_front (reverse octets))

-- without the blanks in front and behind
unfoldable pub trimmed : List ℕ → List ℕ
trimmed octets = trimmed_back (trimmed_front octets)
