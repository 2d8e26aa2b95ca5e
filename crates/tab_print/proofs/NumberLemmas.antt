use Rattle.std.proofs.Common.{◌≡◌, ℕ, ◌+◌, ◌<◌, suc, zero, Bool, true, false, ◌||◌, List, [], ◌∷◌, length, map, arith, refl, ◌∙◌, get_or}
use Rattle.std.specs.List.{All, flat_map}
use Rattle.std.specs.Str.{bytes_eq}
use Rattle.std.proofs.lemmas.List.Elements.{All-head, All-tail}
use Rattle.std.proofs.lemmas.Slice.Eq.{bytes_eq-Decides}
use Rattle.tab_text.specs.Cells.{NamedRow}
use Rattle.tab_text.specs.Contents.{Contents, IsRowOf}
use Rattle.tab_text.specs.Rows.{Names, distinct, place_of, names_of, numbered, name_at, row_named, table_names, IsNumberedTable}
use Rattle.tab_text.specs.declared.row.Row.{Row}
use Rattle.tab_text.proofs.NamesLemmas.{has, others, others-has}

-- each name of a list is there once
abbrev Once : List (List ℕ) → Type 0
Once [] = Unit
Once (name ∷ names) = (has names name ≡ false) × Once names

same-bytes : (name : List ℕ) → bytes_eq name name ≡ true
same-bytes name = (bytes_eq-Decides name name).1 refl

apart-by : (name other : List ℕ) (test : Bool) → bytes_eq other name ≡ test → bytes_eq name other ≡ false → test ≡ false
apart-by name other false is apart = refl
apart-by name other true is apart =
    let same : other ≡ name = (bytes_eq-Decides other name).0 is in
    let yes : bytes_eq name other ≡ true = rw same (same-bytes name) in
    cc

-- names that are apart one way are apart the other way
apart-both : (name other : List ℕ) → bytes_eq name other ≡ false → bytes_eq other name ≡ false
apart-both name other apart = apart-by name other (bytes_eq other name) refl apart

others-none-by : (name first : List ℕ) (names : List (List ℕ)) (test : Bool) → bytes_eq name first ≡ test → has (others name names) name ≡ false → has (others name (first ∷ names)) name ≡ false
others-none-by name first names true is none = rw is none
others-none-by name first names false is none = rw (is, apart-both name first is) none

others-none : (name : List ℕ) (names : List (List ℕ)) → has (others name names) name ≡ false
others-none name [] = refl
others-none name (first ∷ names) = others-none-by name first names (bytes_eq name first) refl (others-none name names)

others-once-by : (name first : List ℕ) (names : List (List ℕ)) (test : Bool) → bytes_eq name first ≡ test → has names first ≡ false → Once (others name names) → Once (others name (first ∷ names))
others-once-by name first names true is none once = rw is once
others-once-by name first names false is none once = rw is (others-has name first names is ∙ none, once)

others-once : (name : List ℕ) (names : List (List ℕ)) → Once names → Once (others name names)
others-once name [] once = tt
others-once name (first ∷ names) once =
    others-once-by name first names (bytes_eq name first) refl once.0 (others-once name names once.1)

distinct-once : (names : List (List ℕ)) → Once (distinct names)
distinct-once [] = tt
distinct-once (name ∷ names) = (others-none name (distinct names), others-once name (distinct names) (distinct-once names))

or-none : (a b : Bool) → (a || b) ≡ false → (a ≡ false) × (b ≡ false)
or-none true b is = cc
or-none false b is = (refl, is)

-- a name of a list isn't one that is not in it
not-there : (names : List (List ℕ)) (name : List ℕ) (k : ℕ) → k < length names → has names name ≡ false → bytes_eq (get_or names k []) name ≡ false
not-there [] name k below none = absurd (omega arith)
not-there (first ∷ names) name zero below none = (or-none (bytes_eq first name) (has names name) none).0
not-there (first ∷ names) name (suc k) below none =
    not-there names name k (omega arith) (or-none (bytes_eq first name) (has names name) none).1

-- a name's number is where it stands
place-at : (names : List (List ℕ)) (k : ℕ) → k < length names → Once names → place_of names (get_or names k []) ≡ k
unfolding place_of
place-at [] k below once = absurd (omega arith)
place-at (first ∷ names) zero below once = rw (same-bytes first) refl
place-at (first ∷ names) (suc k) below once =
    let apart : bytes_eq first (get_or names k []) ≡ false = apart-both (get_or names k []) first (not-there names first k (omega arith) once.0) in
    let rest : place_of names (get_or names k []) ≡ k = place-at names k (omega arith) once.1 in
    let next : 1 + k ≡ suc k = omega arith in
    rw (apart, rest) next

places-at : (names : List (List ℕ)) (numbers : List ℕ) → All (λ k. k < length names) numbers → Once names → map (place_of names) (map (name_at names) numbers) ≡ numbers
places-at names [] all once = refl
places-at names (k ∷ numbers) all once =
    rw (place-at names k (All-head (λ n. n < length names) k numbers all) once, places-at names numbers (All-tail (λ n. n < length names) k numbers all) once) refl

record AllOnce (names : Names) : Type 0 where
  states : Once names.states
  kinds : Once names.kinds
  guards : Once names.guards
  actions : Once names.actions

all-once : (rows : List NamedRow) → AllOnce (names_of rows)
unfolding names_of
all-once rows = record {
  states = distinct-once (flat_map (λ (row : NamedRow). row.state ∷ row.next ∷ []) rows);
  kinds = distinct-once (map (λ (row : NamedRow). row.kind) rows);
  guards = distinct-once (flat_map (λ (row : NamedRow). row.guards) rows);
  actions = distinct-once (flat_map (λ (row : NamedRow). row.actions) rows);
}

number-back : (table : Contents) (row : Row) → AllOnce (table_names table) → IsRowOf table row → numbered (table_names table) (row_named table row) ≡ row
unfolding numbered row_named
number-back table row once is =
    rw (place-at table.states row.state is.state once.states, place-at table.kinds row.kind is.kind once.kinds, places-at table.guards row.guards is.guards once.guards, places-at table.actions row.actions is.actions once.actions, place-at table.states row.next is.next once.states) refl

numbers-by : (table : Contents) (rows : List Row) → AllOnce (table_names table) → All (IsRowOf table) rows → map (numbered (table_names table)) (map (row_named table) rows) ≡ rows
numbers-by table [] once all = refl
numbers-by table (row ∷ rows) once all =
    rw (number-back table row once (All-head (IsRowOf table) row rows all), numbers-by table rows once (All-tail (IsRowOf table) row rows all)) refl

-- the rows of a table get their numbers again
pub numbers-back : (table : Contents) → IsNumberedTable table → map (numbered (table_names table)) (map (row_named table) table.rows) ≡ table.rows
numbers-back table is =
    let once : AllOnce (table_names table) = rw is.by_appearance (all-once (map (row_named table) table.rows)) in
    numbers-by table table.rows once is.within.each_row
