-- What stands where a table's text has its first fault, and in which row a name stands that isn't registered.
use Rattle.std.specs.Prelude.{ℕ, ◌==◌, ◌&&◌, ◌||◌, not, Bool, false, List, [], ◌∷◌, ◌++◌, Option, Some, None, codes}
use Rattle.std.specs.Prelude.{decimal, drop, take}
use Rattle.std.specs.Prelude.{is_some, nat_le, option_map, position, if◌then◌else◌}
use Rattle.std.specs.List.{find, list_all, slice_get}
use Rattle.std.specs.Option.{option_map_or, option_or}
use Rattle.std.specs.Str.{bytes_eq}
use Rattle.base_list.specs.Named.{place_of}
use Rattle.base_list.specs.declared.named.Named.{Named}
use Rattle.tab_law.specs.Books.{Laws}
use Rattle.tab_text.specs.Contents.{Contents}
use Rattle.tab_text.specs.Names.{is_name}
use Rattle.tab_text.specs.declared.fault.TextCode.{TextCode}
use Rattle.tab_text.specs.declared.fault.TextCode.TheVariants.{BadByte, BadName}
use Rattle.tab_text.specs.declared.row.Row.{Row}
use Rattle.text_parts.specs.Lines.{Line, is_plain, kept, more_lines}
use Rattle.text_parts.specs.Pieces.{pieces_in}
use Rattle.text_parts.specs.Words.{Word, is_word, trimmed, words}
use Rattle.fault_text.specs.Words.{shown}
use Rattle.fault_text.specs.declared.spots.RowPlace.{RowPlace}

-- a word of a row that is no name, nor stands between names
unfoldable pub is_odd : List ℕ → Bool
is_odd word =
    is_word word && not (is_name word)
    && not (bytes_eq word (codes "-") || bytes_eq word (codes "when") || bytes_eq word (codes "and"))

-- the first such part of words; parts end at commas
abbrev pub odd_among : List Word → Option (List ℕ)
odd_among [] = None
odd_among (word ∷ rest) = option_or (find is_odd (pieces_in 44 word.octets)) (odd_among rest)

-- the first such word of a line
abbrev pub odd_word : List ℕ → Option (List ℕ)
odd_word octets = odd_among (words octets)

-- the first such word of lines that continue a row, each behind its `+`
abbrev pub odd_behind : List Line → Option (List ℕ)
odd_behind [] = None
odd_behind (line ∷ rest) = option_or (odd_word (drop 1 line.octets)) (odd_behind rest)

-- the first such word of a row, by the line on which it begins and the lines behind that
abbrev pub odd_in_row : Line → List Line → Option (List ℕ)
odd_in_row line behind = option_or (odd_word line.octets) (odd_behind (more_lines (kept behind)))

-- that word, where a row isn't made of names, of the lines from the one on which it begins
abbrev pub odd_at : TextCode → List Line → Option (List ℕ)
odd_at BadName (line ∷ behind) = odd_in_row line behind
odd_at BadName [] = None
odd_at code some = None

-- a byte that a text can't have
abbrev pub is_bad : ℕ → Bool
is_bad b = not (nat_le 32 b && nat_le b 126)

-- a line as it is shown: its front, where it is printable
abbrev pub shown_line : List ℕ → List ℕ
shown_line octets = if is_plain octets then take 160 (trimmed octets) else codes "a line that isn't printable ASCII"

-- the first byte of a line that a text can't have; where each is one that it can, the line
abbrev pub bad_byte : List ℕ → List ℕ
bad_byte octets =
    option_map_or (λ at. codes "byte " ++ decimal at ++ codes " of the line, counted from 0") (position is_bad octets)
    (shown_line octets)

-- what is wrong at a line, by the lines behind it: a byte;
-- of a row that isn't made of names the first word that is none, where one is; or else the line
abbrev pub wrong_part : TextCode → Line → List Line → List ℕ
wrong_part BadByte line behind = bad_byte line.octets
wrong_part BadName line behind = option_map_or shown (odd_in_row line behind) (shown_line line.octets)
wrong_part code line behind = shown_line line.octets

-- the line of that number, and the lines behind it
abbrev pub from_line : ℕ → List Line → List Line
from_line number [] = []
from_line number (line ∷ rest) = if line.number == number then line ∷ rest else from_line number rest

-- what is wrong at the first of these lines, on a line of its own
abbrev pub wrong_line : TextCode → List Line → List ℕ
wrong_line code [] = []
wrong_line code (line ∷ behind) = codes "  wrong: " ++ wrong_part code line behind ++ codes "\n"

-- the name of that number is registered
abbrev pub is_registered : {T : Type 0} → List (Named T) → (names : List (List ℕ)) → ℕ → Bool
is_registered entries names number =
    option_map_or (λ name. is_some (place_of name entries)) (slice_get names number) false

-- each name of a row is registered
abbrev pub is_bound : Laws → Contents → Row → Bool
is_bound laws table row =
    is_registered laws.kinds table.kinds row.kind && list_all (is_registered laws.guards table.guards) row.guards
    && list_all (is_registered laws.acts table.actions) row.actions

-- the first row with a name that isn't registered, counted from 0
abbrev pub unbound_row : Laws → Contents → Option ℕ
unbound_row laws table = position (λ row. not (is_bound laws table row)) table.rows

-- a row, and the line on which it begins
abbrev pub row_place : Contents → ℕ → RowPlace
row_place table row = record { row = row; line = slice_get table.lines row }

-- that row, and the line on which it begins
abbrev pub unbound_place : Laws → Contents → Option RowPlace
unbound_place laws table = option_map (row_place table) (unbound_row laws table)

-- `, line 9`
abbrev pub line_part : Option ℕ → List ℕ
line_part None = []
line_part (Some line) = codes ", line " ++ decimal line

-- `  in: row 7, line 9`
abbrev pub place_line : Option RowPlace → List ℕ
place_line None = []
place_line (Some place) = codes "  in: row " ++ decimal place.row ++ line_part place.line ++ codes "\n"
