-- The pieces of a text, and its words as they are taken off.
use Rattle.std.specs.Prelude.{ℕ, ◌≡◌, ◌+◌, ◌==◌, nat_le, List, [], ◌∷◌, length}
use Rattle.std.specs.Prelude.{drop, filter, Option, Some, None, if◌then◌else◌}
use Rattle.std.specs.List.{slice_split}
use Rattle.std.specs.Str.{bytes_eq}
use Rattle.text_parts.specs.Words.{Word, placed_from, is_word}
use Rattle.text_parts.specs.declared.pieces.Pieces.{Pieces}
use Rattle.text_parts.specs.declared.pieces.Found.{Found}
use Rattle.text_parts.specs.declared.pieces.Words.{Words}

-- the pieces of a text between separators
abbrev pub pieces_in : ℕ → List ℕ → List (List ℕ)
pieces_in separator text = slice_split (λ b. b == separator) text

-- the pieces from this byte on
unfoldable pub pieces_from : ℕ → ℕ → List ℕ → List (List ℕ)
pieces_from separator from text = if nat_le from (length text) then pieces_in separator (drop from text) else []

-- the pieces that are left
abbrev pub pieces_left : Pieces → List (List ℕ)
pieces_left p = pieces_from p.separator p.from p.text.now

-- this piece is the first that was left, and the others are left now
pub record IsFirstPiece (old : Pieces) (piece : List ℕ) (new : Pieces) : Type 0 where
  pub left : pieces_left old ≡ piece ∷ pieces_left new
  pub from : new.from ≡ old.from + length piece + 1

-- a word as it was found
abbrev pub word_of : Found → Word
word_of found = record { at = found.at; octets = found.octets.now }

-- the words that are left
abbrev pub words_left : Words → List Word
words_left w = filter (λ word. is_word word.octets) (placed_from w.pieces.from (pieces_left w.pieces))

-- where the first of words begins, if it is this one, and the words behind it
abbrev pub after_word : List ℕ → List Word → Option (ℕ × List Word)
after_word word [] = None
after_word word (first ∷ rest) = if bytes_eq first.octets word then Some (first.at, rest) else None
