use Rattle.std.proofs.Common.{◌≡◌, ℕ, ◌≤◌, Bool, true, false, List, [], ◌∷◌, ◌++◌, length, map, Option, Some, None, if◌then◌else◌, arith, refl, sym, ◌∙◌}
use Rattle.std.specs.List.{All}
use Rattle.std.proofs.lemmas.List.{append_assoc, append-nil, map_push, length_push}
use Rattle.std.proofs.lemmas.List.Elements.{All-push}
use Rattle.text_parts.specs.Lines.{Line, lines, kept}
use Rattle.tab_text.specs.Cells.{Cells, NamedRow, columns_of, groups}
use Rattle.tab_text.specs.Rows.{Names, spelled, cells_in, rows_of, IsWellNamed, names_of, numbered}
use Rattle.tab_text.specs.Faults.{fault_at, has_room, first_fault}
use Rattle.tab_text.specs.Passing.{fault_behind}
use Rattle.tab_text.specs.Reading.{named}
use Rattle.text_parts.specs.Left.{lines_left}
use Rattle.tab_text.specs.Rooms.{with_row}
use Rattle.tab_text.specs.Reader.{IsAt, IsOpened, TakesRow, HasEnded}
use Rattle.tab_text.specs.declared.limits.TheConstants.{MAX_ROWS, MAX_ROW_GUARDS, MAX_ROW_ACTIONS}
use Rattle.tab_text.specs.declared.fault.TextCode.TheVariants.{TooManyNames}
use Rattle.tab_text.specs.declared.fault.TextFault.{TextFault}
use Rattle.tab_text.specs.declared.reader.Reader.{Reader}
use Rattle.tab_text.specs.declared.row.Row.{Row}
use Rattle.tab_text.specs.declared.cells.RowNames.{RowNames}
use Rattle.tab_text.proofs.NamesLemmas.{names_of-push}

-- a text's rows are these and those that a reader has left
abbrev pub AreRows : List ℕ → Reader → Line → List Cells → Type 0
AreRows text reader header rows =
    cells_in (kept (lines text)) ≡ rows ++ groups (columns_of header.octets) (kept (lines_left reader.lines))

-- a text's rows up to a reader were checked: they have no fault, and these are their names
pub record IsChecked (text : List ℕ) (reader : Reader) (names : Names) (header : Line) (rows : List Cells) : Type 0 where
  pub at : IsAt header rows reader
  pub all : AreRows text reader header rows
  pub fault : first_fault text ≡ fault_behind header rows (lines_left reader.lines)
  pub names_are : names ≡ names_of (spelled rows)
  pub room : has_room names ≡ true

no-names : ◌≡◌ {A = Names} (record { states = []; kinds = []; guards = []; actions = [] }) (names_of (spelled []))
unfolding names_of
no-names = refl

no-names-fit : has_room (record { states = []; kinds = []; guards = []; actions = [] }) ≡ true
unfolding has_room
no-names-fit = refl

pub checked-none : (text : List ℕ) (reader : Reader) (names : Names) (header : Line) → IsOpened text header reader → ◌≡◌ {A = Names} names (record { states = []; kinds = []; guards = []; actions = [] }) → IsChecked text reader names header []
checked-none text reader names header opened none = record {
  at = opened.at;
  all = rw opened.kept refl;
  fault = opened.fault;
  names_are = none ∙ no-names;
  room = rw none no-names-fit;
}

-- the names of the rows up to one, and that one's
names-more : (header : Line) (rows : List Cells) (left : List Line) (row : RowNames) (cells : Cells) (reader : Reader) (names : Names) → TakesRow header rows left row cells reader → names ≡ names_of (spelled rows) → with_row names (named row) ≡ names_of (spelled (rows ++ cells ∷ []))
names-more header rows left row cells reader names takes is =
    rw (takes.taken.rows_are, names_of-push (spelled rows) (named row), is) refl

all-more : (text : List ℕ) (old new : Reader) (header : Line) (rows : List Cells) (cells : Cells) → AreRows text old header rows → groups (columns_of header.octets) (kept (lines_left old.lines)) ≡ cells ∷ groups (columns_of header.octets) (kept (lines_left new.lines)) → AreRows text new header (rows ++ cells ∷ [])
all-more text old new header rows cells all next =
    all ∙ rw next (sym (append_assoc rows (cells ∷ []) (groups (columns_of header.octets) (kept (lines_left new.lines)))))

pub checked-more : (text : List ℕ) (old new : Reader) (names : Names) (header : Line) (rows : List Cells) (row : RowNames) (cells : Cells) (after : Names) → IsChecked text old names header rows → TakesRow header rows (lines_left old.lines) row cells new → after ≡ with_row names (named row) → true ≡ has_room (with_row names (named row)) → IsChecked text new after header (rows ++ cells ∷ [])
checked-more text old new names header rows row cells after checked takes is room =
    let more = names-more header rows (lines_left old.lines) row cells new names takes checked.names_are in
    let fits : has_room (names_of (spelled (rows ++ cells ∷ []))) ≡ true = rw (← more) (sym room) in
    record {
      at = takes.taken.at;
      all = all-more text old new header rows cells checked.all takes.groups;
      fault = checked.fault ∙ takes.fault ∙ rw fits refl;
      names_are = is ∙ more;
      room = rw is (sym room);
    }

-- a row for whose names there is no room
pub checked-over : (text : List ℕ) (old new : Reader) (names : Names) (header : Line) (rows : List Cells) (row : RowNames) (cells : Cells) → IsChecked text old names header rows → TakesRow header rows (lines_left old.lines) row cells new → false ≡ has_room (with_row names (named row)) → first_fault text ≡ Some (fault_at row.line TooManyNames)
checked-over text old new names header rows row cells checked takes full =
    let more = names-more header rows (lines_left old.lines) row cells new names takes checked.names_are in
    let over : has_room (names_of (spelled (rows ++ cells ∷ []))) ≡ false = rw (← more) (sym full) in
    checked.fault ∙ takes.fault ∙ rw over refl

-- where no row is left, the rows are all
all-ended : (text : List ℕ) (reader : Reader) (header : Line) (rows : List Cells) → AreRows text reader header rows → groups (columns_of header.octets) (kept (lines_left reader.lines)) ≡ [] → cells_in (kept (lines text)) ≡ rows
all-ended text reader header rows all ended = all ∙ rw ended (append-nil rows)

pub checked-names : (text : List ℕ) (reader : Reader) (names : Names) (header : Line) (rows : List Cells) → IsChecked text reader names header rows → HasEnded header rows (lines_left reader.lines) → names ≡ names_of (rows_of text)
checked-names text reader names header rows checked ended =
    rw (all-ended text reader header rows checked.all ended.groups) checked.names_are

-- a text's rows up to a reader were read, and these are their numbers
pub record IsFilled (text : List ℕ) (reader : Reader) (names : Names) (numbers : List Row) (begun : List ℕ) (header : Line) (rows : List Cells) : Type 0 where
  pub at : IsAt header rows reader
  pub all : AreRows text reader header rows
  pub fault : fault_behind header rows (lines_left reader.lines) ≡ None
  pub rows_are : numbers ≡ map (numbered names) (spelled rows)
  pub lines_are : begun ≡ map (λ (cells : Cells). cells.line) rows
  pub count : length (spelled rows) ≡ length rows
  pub few_rows : length rows ≤ MAX_ROWS
  pub well_named : All IsWellNamed (spelled rows)
  pub few_guards : All (λ (row : NamedRow). length row.guards ≤ MAX_ROW_GUARDS) (spelled rows)
  pub few_actions : All (λ (row : NamedRow). length row.actions ≤ MAX_ROW_ACTIONS) (spelled rows)

pub filled-none : (text : List ℕ) (reader : Reader) (names : Names) (header : Line) (numbers : List Row) (begun : List ℕ) → IsOpened text header reader → first_fault text ≡ None → numbers ≡ [] → begun ≡ [] → IsFilled text reader names numbers begun header []
filled-none text reader names header numbers begun opened sound none empty = record {
  at = opened.at;
  all = rw opened.kept refl;
  fault = sym opened.fault ∙ sound;
  rows_are = none;
  lines_are = empty;
  count = refl;
  few_rows = omega arith;
  well_named = λ k d below. absurd (omega arith);
  few_guards = λ k d below. absurd (omega arith);
  few_actions = λ k d below. absurd (omega arith);
}

-- where no fault comes, there is room
sound-more : (test : Bool) (rest : Option TextFault) (fault : TextFault) → None ≡ (if test then rest else Some fault) → rest ≡ None
sound-more true rest fault none = sym none
sound-more false rest fault none = cc

pub filled-more : (text : List ℕ) (old new : Reader) (names : Names) (header : Line) (rows : List Cells) (row : RowNames) (cells : Cells) (numbers after : List Row) (begun more : List ℕ) → IsFilled text old names numbers begun header rows → TakesRow header rows (lines_left old.lines) row cells new → after ≡ numbers ++ numbered names (named row) ∷ [] → more ≡ begun ++ row.line ∷ [] → IsFilled text new names after more header (rows ++ cells ∷ [])
filled-more text old new names header rows row cells numbers after begun more filled takes pushed lined =
    let room = takes.taken.room in
    record {
      at = takes.taken.at;
      all = all-more text old new header rows cells filled.all takes.groups;
      fault = sound-more (has_room (names_of (spelled (rows ++ cells ∷ [])))) (fault_behind header (rows ++ cells ∷ []) (lines_left new.lines)) (fault_at row.line TooManyNames) (sym filled.fault ∙ takes.fault);
      rows_are = rw (pushed, takes.taken.rows_are, map_push (numbered names) (spelled rows) (named row), filled.rows_are) refl;
      lines_are = rw (lined, filled.lines_are, takes.taken.number, map_push (λ (c : Cells). c.line) rows cells) refl;
      count = rw (takes.taken.rows_are, length_push (spelled rows) (named row), length_push rows cells, filled.count) refl;
      few_rows = rw (length_push rows cells) (omega (arith, room));
      well_named = rw takes.taken.rows_are (All-push IsWellNamed (spelled rows) (named row) filled.well_named takes.taken.well);
      few_guards = rw takes.taken.rows_are (All-push (λ (r : NamedRow). length r.guards ≤ MAX_ROW_GUARDS) (spelled rows) (named row) filled.few_guards takes.taken.few_guards);
      few_actions = rw takes.taken.rows_are (All-push (λ (r : NamedRow). length r.actions ≤ MAX_ROW_ACTIONS) (spelled rows) (named row) filled.few_actions takes.taken.few_actions);
    }

-- behind the last row all rows of the text are read
pub filled-all : (text : List ℕ) (reader : Reader) (names : Names) (numbers : List Row) (begun : List ℕ) (header : Line) (rows : List Cells) → IsFilled text reader names numbers begun header rows → HasEnded header rows (lines_left reader.lines) → cells_in (kept (lines text)) ≡ rows
filled-all text reader names numbers begun header rows filled ended = all-ended text reader header rows filled.all ended.groups
