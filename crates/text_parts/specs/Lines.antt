-- The lines of a text.
use Rattle.std.specs.Prelude.{ℕ, ◌+◌, ◌==◌, ◌&&◌, ◌||◌, not, nat_le, Bool, false}
use Rattle.std.specs.Prelude.{List, [], ◌∷◌, take, filter, if◌then◌else◌}
use Rattle.std.specs.List.{list_all, slice_split}
use Rattle.std.specs.Str.{bytes_eq}

-- a line of a text, with its number
pub record Line : Type 0 where
  pub number : ℕ
  pub octets : List ℕ

-- lines with their numbers, from this one on
abbrev pub numbered_from : ℕ → List (List ℕ) → List Line
numbered_from number [] = []
numbered_from number (octets ∷ rest) = record { number = number; octets = octets } ∷ numbered_from (number + 1) rest

-- the lines of a text: it is cut at each newline, and they are numbered from 1
abbrev pub lines : List ℕ → List Line
lines text = numbered_from 1 (slice_split (λ b. b == 10) text)

-- the bytes of a text are 0x20 to 0x7E (and newline, which is in no line)
abbrev pub is_plain : List ℕ → Bool
is_plain octets = list_all (λ b. nat_le 32 b && nat_le b 126) octets

-- a blank line has blanks alone
abbrev pub is_blank : List ℕ → Bool
is_blank octets = list_all (λ b. b == 32) octets

-- a comment has `#` in byte 0
abbrev pub is_comment : List ℕ → Bool
is_comment [] = false
is_comment (b ∷ bs) = b == 35

-- blank lines and comments are skipped
abbrev pub is_skipped : List ℕ → Bool
is_skipped octets = is_blank octets || is_comment octets

-- the other lines
abbrev pub kept : List Line → List Line
kept all = filter (λ line. not (is_skipped line.octets)) all

-- a `+` in byte 0 continues the row before
abbrev pub is_more : List ℕ → Bool
is_more [] = false
is_more (b ∷ bs) = b == 43

-- behind the header a line has a blank or `+` in byte 0, and a blank in byte 1 where it has one
abbrev pub is_row_line : List ℕ → Bool
is_row_line octets =
    bytes_eq (take 2 octets) (32 ∷ 32 ∷ []) || bytes_eq (take 2 octets) (43 ∷ 32 ∷ []) || bytes_eq octets (43 ∷ [])

-- of lines that are kept, those in front that continue the row before
abbrev pub more_lines : List Line → List Line
more_lines [] = []
more_lines (line ∷ rest) = if is_more line.octets then line ∷ more_lines rest else []
