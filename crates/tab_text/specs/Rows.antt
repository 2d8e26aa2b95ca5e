-- The rows of a text, and its table.
use Rattle.std.specs.Prelude.{ℕ, ◌≡◌, All, true, not, List, [], ◌∷◌, map, filter}
use Rattle.std.specs.List.{filter_map, flat_map, position_or_len, slice_index_or}
use Rattle.std.specs.Str.{bytes_eq}
use Rattle.tab_text.specs.Contents.{Contents, IsTable}
use Rattle.text_parts.specs.Lines.{Line, lines, kept}
use Rattle.tab_text.specs.Names.{is_name}
use Rattle.tab_text.specs.Cells.{Cells, NamedRow, columns_of, groups, row_of}
use Rattle.tab_text.specs.declared.row.Row.{Row}

-- the state of a row behind a row with this state: an empty State cell means the state of the row before
abbrev pub state_behind : List ℕ → List ℕ → List ℕ
state_behind before [] = before
state_behind before (b ∷ bs) = b ∷ bs

-- rows with their empty states filled in, behind a row with this state
abbrev pub filled : List ℕ → List NamedRow → List NamedRow
filled before [] = []
filled before (row ∷ rows) =
    record row { state = state_behind before row.state } ∷ filled (state_behind before row.state) rows

-- the rows that cells spell, with their states filled in
abbrev pub spelled : List Cells → List NamedRow
spelled rows = filled [] (filter_map row_of rows)

-- the cells of the rows of the lines that are kept, the first of which is the header
abbrev pub cells_in : List Line → List Cells
cells_in [] = []
cells_in (header ∷ body) = groups (columns_of header.octets) body

-- the rows of a text
abbrev pub rows_of : List ℕ → List NamedRow
rows_of text = spelled (cells_in (kept (lines text)))

-- the lines on which the rows of a text begin
abbrev pub row_lines : List ℕ → List ℕ
row_lines text = map (λ cells. cells.line) (cells_in (kept (lines text)))

-- names in order of first appearance, each once
abbrev pub distinct : List (List ℕ) → List (List ℕ)
distinct [] = []
distinct (name ∷ names) = name ∷ filter (λ other. not (bytes_eq name other)) (distinct names)

-- a name's number is its place in the list
unfoldable pub place_of : List (List ℕ) → List ℕ → ℕ
place_of names name = position_or_len (λ other. bytes_eq other name) names

-- the names of rows
pub record Names : Type 0 where
  pub states : List (List ℕ)
  pub kinds : List (List ℕ)
  pub guards : List (List ℕ)
  pub actions : List (List ℕ)

-- the names of rows in order of first appearance, in each row its state before its next one
unfoldable pub names_of : List NamedRow → Names
names_of rows = record {
  states = distinct (flat_map (λ row. row.state ∷ row.next ∷ []) rows);
  kinds = distinct (map (λ row. row.kind) rows);
  guards = distinct (flat_map (λ row. row.guards) rows);
  actions = distinct (flat_map (λ row. row.actions) rows);
}

-- a row with its names given by their numbers
unfoldable pub numbered : Names → NamedRow → Row
numbered names row = record {
  state = place_of names.states row.state;
  kind = place_of names.kinds row.kind;
  guards = map (place_of names.guards) row.guards;
  actions = map (place_of names.actions) row.actions;
  next = place_of names.states row.next;
}

-- the table of rows that begin on these lines
unfoldable pub table_with : List NamedRow → List ℕ → Names → Contents
table_with rows lines names = record {
  states = names.states;
  kinds = names.kinds;
  guards = names.guards;
  actions = names.actions;
  rows = map (numbered names) rows;
  lines = lines;
}

-- the table of a text
unfoldable pub table_of : List ℕ → Contents
table_of text = table_with (rows_of text) (row_lines text) (names_of (rows_of text))

-- the name of that number in a list of names
abbrev pub name_at : List (List ℕ) → ℕ → List ℕ
name_at names number = slice_index_or names number []

-- a table's row by its names
unfoldable pub row_named : Contents → Row → NamedRow
row_named table row = record {
  state = name_at table.states row.state;
  kind = name_at table.kinds row.kind;
  guards = map (name_at table.guards) row.guards;
  actions = map (name_at table.actions) row.actions;
  next = name_at table.states row.next;
}

-- a table's names
abbrev pub table_names : Contents → Names
table_names table = record {
  states = table.states;
  kinds = table.kinds;
  guards = table.guards;
  actions = table.actions;
}

-- a row whose names are well formed
pub record IsWellNamed (row : NamedRow) : Type 0 where
  pub state : is_name row.state ≡ true
  pub kind : is_name row.kind ≡ true
  pub guards : All (λ name. is_name name ≡ true) row.guards
  pub actions : All (λ name. is_name name ≡ true) row.actions
  pub next : is_name row.next ≡ true

-- a table within its limits, whose names are those of its rows, each once and in order of first appearance, and well
-- formed
pub record IsNumberedTable (table : Contents) : Type 0 where
  pub within : IsTable table
  pub by_appearance : table_names table ≡ names_of (map (row_named table) table.rows)
  pub well_named : All IsWellNamed (map (row_named table) table.rows)
