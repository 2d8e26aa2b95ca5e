use Rattle.std.proofs.Common.{◌≡◌, ℕ, ◌<◌, suc, zero, Bool, true, false, ltb, ◌||◌, List, [], ◌∷◌, ◌++◌, length, map, arith, refl, sym, ◌∙◌, get_or}
use Rattle.std.specs.List.{All, Contains, flat_map}
use Rattle.std.specs.Str.{bytes_eq}
use Rattle.std.proofs.lemmas.Bool.Decides.{nat_tests}
use Rattle.std.proofs.lemmas.List.{length-map}
use Rattle.std.proofs.lemmas.List.Concat.{flat_map_single}
use Rattle.std.proofs.lemmas.List.Elements.{All-cons, All-head, All-tail, All-weaker, All-map, All-contains_itself, Contains-append_left, Contains-append_right}
use Rattle.std.proofs.lemmas.Slice.Eq.{bytes_eq-Decides}
use Rattle.tab_text.specs.Contents.{Contents, IsRowOf, IsTable}
use Rattle.tab_text.specs.Cells.{NamedRow}
use Rattle.tab_text.specs.Rows.{Names, distinct, place_of, names_of, numbered, table_with, rows_of, row_lines, table_of}
use Rattle.tab_text.specs.declared.row.Row.{Row}
use Rattle.tab_text.specs.Faults.{has_room}
use Rattle.tab_text.specs.Reader.{IsShort}
use Rattle.tab_text.proofs.NamesLemmas.{has, there-is, others-has}
use Rattle.tab_text.proofs.RoomsLemmas.{fits-from}

or-right : (test : Bool) → (test || true) ≡ true
or-right true = refl
or-right false = refl

-- what a list contains is in it
has-at : (names : List (List ℕ)) (name : List ℕ) (k : ℕ) → k < length names → get_or names k name ≡ name → has names name ≡ true
has-at [] name k below is = absurd (omega arith)
has-at (first ∷ names) name zero below is = rw ((bytes_eq-Decides first name).1 is) refl
has-at (first ∷ names) name (suc k) below is = rw (has-at names name k (omega arith) is) (or-right (bytes_eq first name))

pub has-contained : (names : List (List ℕ)) (name : List ℕ) → Contains names name → has names name ≡ true
has-contained names name at = has-at names name at.0 at.1 at.2

-- the distinct names of a list are its names
distinct-cons : (first name : List ℕ) (names : List (List ℕ)) (test : Bool) → bytes_eq first name ≡ test → has (distinct names) name ≡ has names name → has (distinct (first ∷ names)) name ≡ has (first ∷ names) name
distinct-cons first name names true is rest = rw is refl
distinct-cons first name names false is rest = rw (is, others-has first name (distinct names) is) rest

pub has-distinct : (names : List (List ℕ)) (name : List ℕ) → has (distinct names) name ≡ has names name
has-distinct [] name = refl
has-distinct (first ∷ names) name = distinct-cons first name names (bytes_eq first name) refl (has-distinct names name)

-- the number of a name is below the length of its list
in-distinct : (names : List (List ℕ)) (name : List ℕ) → Contains names name → place_of (distinct names) name < length (distinct names)
in-distinct names name at =
    let is : ltb (place_of (distinct names) name) (length (distinct names)) ≡ true = there-is (distinct names) name ∙ has-distinct names name ∙ has-contained names name at in
    grind (arith, nat_tests)

-- rows' names of one kind are in the list of all of them
pub each-contained : (f : NamedRow → List (List ℕ)) (rows : List NamedRow) → All (λ (row : NamedRow). All (Contains (flat_map f rows)) (f row)) rows
each-contained f [] = λ k d below. absurd (omega arith)
each-contained f (row ∷ rows) =
    All-cons (λ (r : NamedRow). All (Contains (f row ++ flat_map f rows)) (f r)) row rows
    (All-weaker (Contains (f row)) (Contains (f row ++ flat_map f rows)) (λ name at. Contains-append_left (f row) (flat_map f rows) name at) (f row) (All-contains_itself (f row)))
    (All-weaker (λ (r : NamedRow). All (Contains (flat_map f rows)) (f r)) (λ (r : NamedRow). All (Contains (f row ++ flat_map f rows)) (f r)) (λ r all. All-weaker (Contains (flat_map f rows)) (Contains (f row ++ flat_map f rows)) (λ name at. Contains-append_right (f row) (flat_map f rows) name at) (f r) all) rows (each-contained f rows))

abbrev IsIn : List (List ℕ) → List ℕ → Type 0
IsIn names name = place_of names name < length names

each-in : (f : NamedRow → List (List ℕ)) (rows : List NamedRow) → All (λ (row : NamedRow). All (IsIn (distinct (flat_map f rows))) (f row)) rows
each-in f rows =
    All-weaker (λ (row : NamedRow). All (Contains (flat_map f rows)) (f row)) (λ (row : NamedRow). All (IsIn (distinct (flat_map f rows))) (f row)) (λ row all. All-weaker (Contains (flat_map f rows)) (IsIn (distinct (flat_map f rows))) (in-distinct (flat_map f rows)) (f row) all) rows (each-contained f rows)

-- the kind of a row, and its two states
each-kind : (rows : List NamedRow) → All (λ (row : NamedRow). IsIn (distinct (map (λ (r : NamedRow). r.kind) rows)) row.kind) rows
each-kind rows = λ k d below.
    let kinds = each-in (λ (row : NamedRow). row.kind ∷ []) rows k d below in
    let one = All-head (IsIn (distinct (flat_map (λ (row : NamedRow). row.kind ∷ []) rows))) (get_or rows k d).kind [] kinds in
    rw (flat_map_single (λ (row : NamedRow). row.kind) rows) at one

abbrev pub states_of : NamedRow → List (List ℕ)
states_of row = row.state ∷ row.next ∷ []

each-row : (rows : List NamedRow) (lines : List ℕ) → IsShort rows → All (λ (row : NamedRow). IsRowOf (table_with rows lines (names_of rows)) (numbered (names_of rows) row)) rows
unfolding names_of table_with numbered
each-row rows lines short = λ k d below.
    let row = get_or rows k d in
    let states = each-in states_of rows k d below in
    let states_in = IsIn (distinct (flat_map states_of rows)) in
    let guards = distinct (flat_map (λ (r : NamedRow). r.guards) rows) in
    let actions = distinct (flat_map (λ (r : NamedRow). r.actions) rows) in
    record {
      state = All-head states_in row.state (row.next ∷ []) states;
      kind = each-kind rows k d below;
      guards = All-map (λ g. g < length guards) (place_of guards) row.guards (each-in (λ (r : NamedRow). r.guards) rows k d below);
      actions = All-map (λ a. a < length actions) (place_of actions) row.actions (each-in (λ (r : NamedRow). r.actions) rows k d below);
      next = All-head states_in row.next [] (All-tail states_in row.state (row.next ∷ []) states);
      few_guards = rw (length-map row.guards (place_of guards)) (short.few_guards k d below);
      few_actions = rw (length-map row.actions (place_of actions)) (short.few_actions k d below);
    }

some-state : (rows : List NamedRow) → 0 < length rows → 0 < length (names_of rows).states
unfolding names_of
some-state rows some =
    let none : NamedRow = record { state = []; kind = []; guards = []; actions = []; next = [] } in
    let first = All-head (IsIn (distinct (flat_map states_of rows))) (get_or rows 0 none).state ((get_or rows 0 none).next ∷ []) (each-in states_of rows 0 none some) in
    omega (arith, first)

-- a table of few rows whose names have room
pub table-from : (rows : List NamedRow) (lines : List ℕ) → IsShort rows → length lines ≡ length rows → has_room (names_of rows) ≡ true → IsTable (table_with rows lines (names_of rows))
unfolding table_with
table-from rows lines short each room =
    let fits = fits-from (names_of rows) room in
    let count = length-map rows (numbered (names_of rows)) in
    record {
      some_row = rw count short.some_row;
      some_state = some-state rows short.some_row;
      few_rows = rw count short.few_rows;
      few_states = fits.states;
      few_kinds = fits.kinds;
      few_guards = fits.guards;
      few_actions = fits.actions;
      each_line = each ∙ sym count;
      each_row = All-map (IsRowOf (table_with rows lines (names_of rows))) (numbered (names_of rows)) rows (each-row rows lines short);
    }

-- a table, part by part
pub table-is : (rows : List NamedRow) (lines : List ℕ) (names : Names) (states kinds guards actions : List (List ℕ)) (numbers : List Row) (begun : List ℕ) → names ≡ names_of rows → states ≡ names.states → kinds ≡ names.kinds → guards ≡ names.guards → actions ≡ names.actions → numbers ≡ map (numbered names) rows → begun ≡ lines → ◌≡◌ {A = Contents} (record { states = states; kinds = kinds; guards = guards; actions = actions; rows = numbers; lines = begun }) (table_with rows lines (names_of rows))
unfolding table_with
table-is rows lines names states kinds guards actions numbers begun is s k g a n l = rw (s, k, g, a, n, is, l) refl

pub table_of-is : (text : List ℕ) → table_with (rows_of text) (row_lines text) (names_of (rows_of text)) ≡ table_of text
unfolding table_of
table_of-is text = refl
