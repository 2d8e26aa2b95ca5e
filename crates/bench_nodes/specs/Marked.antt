-- What a node prints, each of its lines behind its host.
use Rattle.std.specs.Prelude.{ℕ, ◌==◌, Bool, true, List, [], ◌∷◌, ◌++◌, codes, if◌then◌else◌}
use Rattle.std.specs.List.{flat_map}
use Rattle.text_parts.specs.Pieces.{pieces_in}

-- a line that tells what belongs to the one before it, or an empty one
abbrev pub is_detail : List ℕ → Bool
is_detail [] = true
is_detail (first ∷ octets) = first == 32

-- what stands before a line: a word and a blank, unless it is a detail
abbrev pub front_of : (word line : List ℕ) → List ℕ
front_of word line = if is_detail line then [] else word ++ codes " "

-- a line behind a word; of an empty one, as there is behind the last end of a line, nothing
abbrev pub marked_line : (word line : List ℕ) → List ℕ
marked_line word [] = []
marked_line word (first ∷ octets) = front_of word (first ∷ octets) ++ (first ∷ octets) ++ codes "\n"

-- lines, each behind the word
abbrev pub marked_lines : (word : List ℕ) → List (List ℕ) → List ℕ
marked_lines word lines = flat_map (marked_line word) lines

-- the lines of a text, each behind the word, but those that begin with a blank
unfoldable pub marked : (word text : List ℕ) → List ℕ
marked word text = marked_lines word (pieces_in 10 text)
