-- The line of an item: what it tells, and what is read of it.
use Rattle.std.specs.Prelude.{◌≡◌, ◌<◌, ℕ, ◌^◌, ◌==◌, not, nat_lt, true, List, [], ◌∷◌, All, Option, Some, None}
use Rattle.std.specs.Prelude.{IsSomeAnd, codes, slice_get, option_map, if◌then◌else◌}
use Rattle.std.specs.List.{list_all, position}
use Rattle.std.specs.Str.{bytes_eq}
use Rattle.hex.specs.Hex.{IsBytes}
use Rattle.base_text.specs.Numbers.{number_of}
use Rattle.text_parts.specs.Pieces.{pieces_in}
use Rattle.bench_item.specs.declared.key.Key.{Key}
use Rattle.bench_item.specs.declared.key.Role.{Role}
use Rattle.step_text.specs.Guess.{first_key, kind_of, rest_of}
use Rattle.log_text.specs.Books.{Named}
use Rattle.log_text.specs.EntryLines.{moved_line, stale_line}
use Rattle.log_text.specs.declared.item.Who.{Who}
use Rattle.log_text.specs.declared.item.ItemLine.{ItemLine}
use Rattle.log_text.specs.declared.item.ItemLine.TheVariants.{TooBusy, Stale, Moved}

-- the line of an item, without its newline
abbrev pub item_line : Named → ItemLine → List ℕ
item_line names TooBusy = codes "  busy"
item_line names (Stale who state) = stale_line names who.key who.kind state
item_line names (Moved who before after row) = moved_line names who.key who.kind before after row

-- a machine and a kind as there may be: its name is octets, and there is such a kind
pub record IsWho (names : Named) (who : Who) : Type 0 where
  pub name : IsBytes who.key.name
  pub kind : IsSomeAnd (slice_get names.names.kinds who.kind) (λ entry. IsBytes entry.name)

abbrev pub IsRow : Option ℕ → Type 0
IsRow None = Unit {0}
IsRow (Some row) = row < 2 ^ 16

-- what may become of an item
abbrev pub IsItem : Named → ItemLine → Type 0
IsItem names TooBusy = Unit {0}
IsItem names (Stale who state) = IsWho names who × (state < 256)
IsItem names (Moved who before after row) = IsWho names who × (before < 256) × (after < 256) × IsRow row

-- what may become of an item, and this line tells it
pub record IsItemOf (names : Named) (line : List ℕ) (item : ItemLine) : Type 0 where
  pub is : IsItem names item
  pub has : item_line names item ≡ line

-- a line that tells what may become of an item
pub record IsItemLine (names : Named) (line : List ℕ) : Type 0 where
  pub item : ItemLine
  pub is : IsItem names item
  pub has : item_line names item ≡ line

-- the names of states are words without blanks
abbrev pub AreWords : Named → Type 0
AreWords names = (role : Role) → All (λ name. list_all (λ c. not (c == 32)) name ≡ true) (names.states role)

-- a number below the limit
abbrev pub below : ℕ → Option ℕ → Option ℕ
below limit None = None
below limit (Some n) = if nat_lt n limit then Some n else None

-- the place of a name, or the number that the word is
abbrev pub place_or : Option ℕ → Option ℕ → Option ℕ
place_or (Some place) number = Some place
place_or None number = number

-- the state of that name, or of that number
abbrev pub state_called : Named → Role → List ℕ → Option ℕ
state_called names role word =
    below 256 (place_or (position (λ name. bytes_eq name word) (names.states role)) (number_of word))

-- the state of the first word
abbrev pub state_of : Named → Role → List (List ℕ) → Option ℕ
state_of names role [] = None
state_of names role (word ∷ words) = state_called names role word

-- the row of the first word
abbrev pub row_of : List (List ℕ) → Option (Option ℕ)
row_of [] = None
row_of (word ∷ words) =
    if bytes_eq word (codes "-") then Some None else option_map Some (below (2 ^ 16) (number_of word))

-- what the words behind two states tell
abbrev pub ending_of : Who → ℕ → ℕ → List (List ℕ) → Option ItemLine
ending_of who before after [] = None
ending_of who before after (word ∷ words) =
    if bytes_eq word (codes "stale") then Some (Stale who before)
    else option_map (Moved who before after) (row_of words)

-- the machine and the kind of the first two words
abbrev pub who_with : Option Key → Option ℕ → Option Who
who_with (Some key) (Some kind) = Some (record { key = key; kind = kind })
who_with (Some key) None = None
who_with None kind = None

abbrev pub who_of : Named → List (List ℕ) → Option Who
who_of names words = who_with (first_key words) (kind_of names.names.kinds (rest_of words))

-- what these words tell, behind two states
abbrev pub between : Who → Option ℕ → Option ℕ → List (List ℕ) → Option ItemLine
between who (Some before) (Some after) words = ending_of who before after words
between who (Some before) None words = None
between who None after words = None

-- what words tell behind a machine and a kind
abbrev pub told_of : Named → Option Who → List (List ℕ) → Option ItemLine
told_of names None words = None
told_of names (Some who) words =
    between who (state_of names who.key.role words) (state_of names who.key.role (rest_of words))
    (rest_of (rest_of words))

-- what the words behind two blanks tell
abbrev pub items_in : Named → List (List ℕ) → Option ItemLine
items_in names words = told_of names (who_of names words) (rest_of (rest_of words))

-- what is behind two words
abbrev pub behind_two : Named → List (List ℕ) → Option ItemLine
behind_two names [] = None
behind_two names (one ∷ []) = None
behind_two names (one ∷ two ∷ words) = items_in names words

-- what a line of an item can tell
abbrev pub guess_item : Named → List ℕ → Option ItemLine
guess_item names line = if bytes_eq line (codes "  busy") then Some TooBusy else behind_two names (pieces_in 32 line)
