use Rattle.std.proofs.Common.{◌≡◌, ℕ, ◌+◌, suc, Bool, true, false, List, [], ◌∷◌, map, get_or, arith, refl, ◌∙◌}
use Rattle.std.specs.List.{All, Contains, flat_map}
use Rattle.std.specs.Str.{bytes_eq}
use Rattle.std.proofs.lemmas.List.Concat.{flat_map_single}
use Rattle.std.proofs.lemmas.List.Elements.{All-head, All-tail}
use Rattle.std.proofs.lemmas.Slice.Eq.{bytes_eq-Decides}
use Rattle.tab_text.specs.Contents.{IsTable}
use Rattle.tab_text.specs.Cells.{NamedRow}
use Rattle.tab_text.specs.Rows.{distinct, place_of, names_of, numbered, table_with, name_at, row_named, table_names, IsWellNamed, IsNumberedTable}
use Rattle.tab_text.specs.declared.row.Row.{Row}
use Rattle.tab_text.proofs.NamesLemmas.{has}
use Rattle.tab_text.proofs.TableLemmas.{has-contained, has-distinct, each-contained, states_of}

get-step : (first : List ℕ) (names : List (List ℕ)) (k : ℕ) → get_or (first ∷ names) (1 + k) [] ≡ get_or names k []
get-step first names k = let more : 1 + k ≡ suc k = omega arith in rw more refl

name-at-cons : (first name : List ℕ) (names : List (List ℕ)) (test : Bool) → bytes_eq first name ≡ test → has (first ∷ names) name ≡ true → (has names name ≡ true → get_or names (place_of names name) [] ≡ name) → get_or (first ∷ names) (place_of (first ∷ names) name) [] ≡ name
unfolding place_of
name-at-cons first name names true is there rest = rw is ((bytes_eq-Decides first name).0 is)
name-at-cons first name names false is there rest =
    let inside : has names name ≡ true = rw is at there in
    rw is (get-step first names (place_of names name) ∙ rest inside)

-- a name stands at its number
name-at-place : (names : List (List ℕ)) (name : List ℕ) → has names name ≡ true → name_at names (place_of names name) ≡ name
name-at-place [] name there = cc
name-at-place (first ∷ names) name there =
    name-at-cons first name names (bytes_eq first name) refl there (name-at-place names name)

-- a name of a list stands at its number among the distinct ones
name-back : (names : List (List ℕ)) (name : List ℕ) → Contains names name → name_at (distinct names) (place_of (distinct names) name) ≡ name
name-back names name at = name-at-place (distinct names) name (has-distinct names name ∙ has-contained names name at)

names-back : (names more : List (List ℕ)) → All (Contains names) more → map (name_at (distinct names)) (map (place_of (distinct names)) more) ≡ more
names-back names [] all = refl
names-back names (name ∷ more) all =
    rw (name-back names name (All-head (Contains names) name more all), names-back names more (All-tail (Contains names) name more all)) refl

maps-back : (f : Row → NamedRow) (g : NamedRow → Row) (rows : List NamedRow) → All (λ (row : NamedRow). f (g row) ≡ row) rows → map f (map g rows) ≡ rows
maps-back f g [] all = refl
maps-back f g (row ∷ rows) all =
    rw (All-head (λ (r : NamedRow). f (g r) ≡ r) row rows all, maps-back f g rows (All-tail (λ (r : NamedRow). f (g r) ≡ r) row rows all)) refl

-- a row's kind, as a list of one name
kind-contained : (rows : List NamedRow) → All (λ (row : NamedRow). Contains (map (λ (r : NamedRow). r.kind) rows) row.kind) rows
kind-contained rows = λ k d below.
    let one = All-head (Contains (flat_map (λ (r : NamedRow). r.kind ∷ []) rows)) (get_or rows k d).kind [] (each-contained (λ (r : NamedRow). r.kind ∷ []) rows k d below) in
    rw (flat_map_single (λ (row : NamedRow). row.kind) rows) at one

-- numbers stand for the names that they were given for
row-back : (rows : List NamedRow) (lines : List ℕ) → All (λ (row : NamedRow). row_named (table_with rows lines (names_of rows)) (numbered (names_of rows) row) ≡ row) rows
unfolding names_of table_with numbered row_named
row-back rows lines = λ k d below.
    let row = get_or rows k d in
    let states = flat_map states_of rows in
    let in_states = each-contained states_of rows k d below in
    let state = name-back states row.state (All-head (Contains states) row.state (row.next ∷ []) in_states) in
    let next = name-back states row.next (All-head (Contains states) row.next [] (All-tail (Contains states) row.state (row.next ∷ []) in_states)) in
    let kind = name-back (map (λ (r : NamedRow). r.kind) rows) row.kind (kind-contained rows k d below) in
    let guards = names-back (flat_map (λ (r : NamedRow). r.guards) rows) row.guards (each-contained (λ (r : NamedRow). r.guards) rows k d below) in
    let actions = names-back (flat_map (λ (r : NamedRow). r.actions) rows) row.actions (each-contained (λ (r : NamedRow). r.actions) rows k d below) in
    rw (state, kind, guards, actions, next) refl

names-are : (rows : List NamedRow) (lines : List ℕ) → table_names (table_with rows lines (names_of rows)) ≡ names_of rows
unfolding names_of table_with
names-are rows lines = refl

-- the rows of a table by their names are those it was made of
pub rows-back : (rows : List NamedRow) (lines : List ℕ) → map (row_named (table_with rows lines (names_of rows))) (table_with rows lines (names_of rows)).rows ≡ rows
unfolding table_with
rows-back rows lines =
    maps-back (row_named (table_with rows lines (names_of rows))) (numbered (names_of rows)) rows (row-back rows lines)

pub numbered-table : (rows : List NamedRow) (lines : List ℕ) → All IsWellNamed rows → IsTable (table_with rows lines (names_of rows)) → IsNumberedTable (table_with rows lines (names_of rows))
numbered-table rows lines well table = record {
  within = table;
  well_named = rw (rows-back rows lines) well;
  by_appearance = names-are rows lines ∙ rw (rows-back rows lines) refl;
}
