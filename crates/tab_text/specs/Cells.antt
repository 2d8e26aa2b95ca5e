-- The cells of rows, by the columns of the header.
use Rattle.std.specs.Prelude.{ℕ, ◌==◌, ◌&&◌, Bool, true, false, List, [], ◌∷◌, ◌++◌, map, take, drop}
use Rattle.std.specs.Prelude.{Option, Some, None, option_map, codes, MatchOption, ◌≡◌, if◌then◌else◌, slice_index}
use Rattle.std.specs.List.{flat_map}
use Rattle.std.specs.Str.{bytes_eq}
use Rattle.std.specs.Cmp.Lexicographic.{pointwise}
use Rattle.text_parts.specs.Lines.{Line, is_more, more_lines}
use Rattle.text_parts.specs.Words.{Word, words, tokens, trimmed}
use Rattle.tab_text.specs.Names.{is_name}
use Rattle.tab_text.specs.declared.cells.Span.{Span}
use Rattle.tab_text.specs.declared.header.Columns.{Columns}

-- the words that a header has
abbrev pub heading : List (List ℕ)
heading = codes "State" ∷ codes "Event" ∷ codes "Action" ∷ codes "Next" ∷ []

-- the bytes at which the words of a line begin
abbrev pub starts : List ℕ → List ℕ
starts octets = map (λ word. word.at) (words octets)

-- a header has these words, the first at byte 2
unfoldable pub is_header : List ℕ → Bool
is_header octets =
    pointwise bytes_eq (map (λ word. word.octets) (words octets)) heading && (slice_index (starts octets) 0 == 2)

-- the columns that begin at these bytes; the State column begins at byte 2
abbrev pub columns_at : ℕ → ℕ → ℕ → Columns
columns_at event action next = record { event = event; action = action; next = next }

-- the columns begin where the words of the header do
unfoldable pub columns_of : List ℕ → Columns
columns_of octets =
    columns_at (slice_index (starts octets) 1) (slice_index (starts octets) 2) (slice_index (starts octets) 3)

-- a header has those columns, and no other line has columns
abbrev pub IsHeader : List ℕ → Option Columns → Type 0
IsHeader octets found =
    MatchOption found (is_header octets ≡ false) (λ columns. (is_header octets ≡ true) × (columns ≡ columns_of octets))

-- a word that was wanted begins at that byte, and these words are left; or it isn't there
abbrev pub IsAfter : Option (ℕ × List Word) → List Word → Option ℕ → Type 0
IsAfter wanted left found = MatchOption found (wanted ≡ None) (λ at. wanted ≡ Some (at, left))

-- the cells of a row as they are written, and the line on which it begins
pub record Cells : Type 0 where
  pub line : ℕ
  pub state : List ℕ
  pub event : List ℕ
  pub action : List ℕ
  pub next : List ℕ

-- the columns: where each begins, and where the next one does
abbrev pub state_span : Columns → Span
state_span columns = record { from = 2; to = Some columns.event }

abbrev pub event_span : Columns → Span
event_span columns = record { from = columns.event; to = Some columns.action }

abbrev pub action_span : Columns → Span
action_span columns = record { from = columns.action; to = Some columns.next }

abbrev pub next_span : Columns → Span
next_span columns = record { from = columns.next; to = None }

-- the bytes up to where the next column begins
abbrev pub front_of : Option ℕ → List ℕ → List ℕ
front_of None octets = octets
front_of (Some to) octets = take to octets

-- a cell goes from its column's start to the next column's, and is trimmed
abbrev pub cell : Span → List ℕ → List ℕ
cell span octets = trimmed (drop span.from (front_of span.to octets))

-- the parts of a cell on the lines of its row
abbrev pub parts : Span → List Line → List (List ℕ)
parts span all = map (λ line. cell span line.octets) all

-- two parts of a cell with one blank between, where both are there
abbrev pub with_blank : List ℕ → List ℕ → List ℕ
with_blank [] behind = behind
with_blank (b ∷ bs) [] = b ∷ bs
with_blank (b ∷ bs) (c ∷ cs) = (b ∷ bs) ++ 32 ∷ c ∷ cs

-- parts of a cell with one blank between those that are there
abbrev pub with_blanks : List (List ℕ) → List ℕ
with_blanks [] = []
with_blanks (part ∷ rest) = with_blank part (with_blanks rest)

-- the cells of a row that begins on a line and goes on on others: the parts of Event and Action with blanks between
unfoldable pub row_cells : Columns → Line → List Line → Cells
row_cells columns line more = record {
  line = line.number;
  state = flat_map (λ part. part) (parts (state_span columns) (line ∷ more));
  event = with_blanks (parts (event_span columns) (line ∷ more));
  action = with_blanks (parts (action_span columns) (line ∷ more));
  next = flat_map (λ part. part) (parts (next_span columns) (line ∷ more));
}

-- the rows' cells, of the lines behind the header: each line that continues none begins a row, with the lines that
-- continue it
abbrev pub groups : Columns → List Line → List Cells
groups columns [] = []
groups columns (line ∷ rest) =
    if is_more line.octets then groups columns rest else row_cells columns line (more_lines rest) ∷ groups columns rest

-- a row by its names; an empty state is that of the row before
pub record NamedRow : Type 0 where
  pub state : List ℕ
  pub kind : List ℕ
  pub guards : List (List ℕ)
  pub actions : List (List ℕ)
  pub next : List ℕ

-- names with this word between
abbrev pub names_apart : List ℕ → List (List ℕ) → Option (List (List ℕ))
names_apart between [] = None
names_apart between (name ∷ []) = if is_name name then Some (name ∷ []) else None
names_apart between (name ∷ word ∷ rest) =
    if is_name name && bytes_eq word between then option_map (λ names. name ∷ names) (names_apart between rest)
    else None

-- the guards behind a kind: none, or `when guard and guard`
unfoldable pub condition_of : List (List ℕ) → Option (List (List ℕ))
condition_of [] = Some []
condition_of (word ∷ rest) = if bytes_eq word (codes "when") then names_apart (codes "and") rest else None

-- `-` alone is no action
abbrev pub is_dash : List (List ℕ) → Bool
is_dash [] = false
is_dash (word ∷ []) = bytes_eq word (codes "-")
is_dash (word ∷ other ∷ rest) = false

-- the actions of a cell: names with commas between, or `-` for none
unfoldable pub actions_of : List (List ℕ) → Option (List (List ℕ))
actions_of found = if is_dash found then Some [] else names_apart (codes ",") found

-- the row of cells whose guards and actions are these, where they are names
abbrev pub joined : Cells → List ℕ → Option (List (List ℕ)) → Option (List (List ℕ)) → Option NamedRow
joined cells kind (Some guards) (Some actions) =
    Some (record { state = cells.state; kind = kind; guards = guards; actions = actions; next = cells.next })
joined cells kind (Some guards) None = None
joined cells kind None actions = None

-- an empty State cell is a good one
abbrev pub is_state : List ℕ → Bool
is_state [] = true
is_state (b ∷ bs) = is_name (b ∷ bs)

-- the row of cells whose Event cell has these words
abbrev pub row_with : Cells → List (List ℕ) → Option NamedRow
row_with cells [] = None
row_with cells (kind ∷ condition) =
    if is_state cells.state && is_name kind
    && is_name cells.next then joined cells kind (condition_of condition) (actions_of (tokens cells.action))
    else None

-- the row that cells spell, where each is made of names as its column wants it
unfoldable pub row_of : Cells → Option NamedRow
row_of cells = row_with cells (tokens cells.event)
