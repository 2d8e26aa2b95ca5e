-- Why rows didn't take an event: by the places of their guards as by the names, and row by row.
use Rattle.std.proofs.Common.{◌≡◌, ℕ, ◌+◌, ◌<◌, ◌++◌, ◌∷◌, [], List, Option, Some, None, length, map, take, drop, get_or, refl, sym, ap, ◌∙◌, arith, append-nil, min, zero-add}
use Rattle.std.specs.Prelude.{◌==◌, ◌&&◌}
use Rattle.std.specs.List.{enumerate_from, filter_map, flat_map, range_with_len, slice_get}
use Rattle.std.proofs.lemmas.Grind.{flat_map-append}
use Rattle.std.proofs.lemmas.List.{drop_more, map-id, take_all, take_min, take_more}
use Rattle.std.proofs.lemmas.List.FromFn.{get_or-enumerate_from, length-enumerate_from, map-range_with_len_more}
use Rattle.base_list.proofs.NamedLemmas.{entry_of-place}
use Rattle.base_list.specs.Named.{HasOwnNames, place_of}
use Rattle.tab_law.specs.Books.{Laws}
use Rattle.tab_law.specs.declared.scene.Scene.{Scene}
use Rattle.tab_text.specs.Contents.{Contents}
use Rattle.tab_text.specs.declared.row.Row.{Row}
use Rattle.tab_step.proofs.MoveLemmas.{is_kind_of-place}
use Rattle.tab_step.specs.Bind.{IsPlacesOf}
use Rattle.tab_step.specs.Moves.{name_at}
use Rattle.tab_step.specs.declared.bound.RowPlaces.{RowPlaces}
use Rattle.tab_step.specs.declared.machine.Event.{Event}
use Rattle.tab_step.specs.declared.machine.MachineState.{MachineState}
use Rattle.tab_walk.specs.Places.{count_before, no_at}
use Rattle.tab_walk.specs.Whys.{change_line, changes_below, first_no, is_of, no_named, rows_before}

range-more : (count : ℕ) → range_with_len 0 (count + 1) ≡ range_with_len 0 count ++ count ∷ []
range-more count =
    sym (map-id (range_with_len 0 (count + 1))) ∙ map-range_with_len_more (λ (x : ℕ). x) 0 count count (omega arith)
    ∙ ap (λ l. l ++ count ∷ []) (map-id (range_with_len 0 count))

pub changes_below-none : (old new : List ℕ) → changes_below old new 0 ≡ []
unfolding changes_below
changes_below-none old new = refl

-- one register more
pub changes_below-more : (old new : List ℕ) (count : ℕ) → changes_below old new (count + 1) ≡ changes_below old new count ++ change_line old new count
unfolding changes_below
changes_below-more old new count =
    ap (flat_map (change_line old new)) (range-more count) ∙ flat_map-append (change_line old new) (range_with_len 0 count) (count ∷ [])
    ∙ ap (λ l. flat_map (change_line old new) (range_with_len 0 count) ++ l) (append-nil (change_line old new count))

-- the first that a function gives something of is the front, or one behind it
pub first-gives : {X Y : Type 0} (f : X → Option Y) (xs : List X) (i : ℕ) (d : X) (y : Y) → i < length xs → f (get_or xs i d) ≡ Some y → slice_get (filter_map f (drop i xs)) 0 ≡ Some y
first-gives f xs i d y within is = rw (drop_more xs i d within, is) refl

pub first-behind : {X Y : Type 0} (f : X → Option Y) (xs : List X) (i : ℕ) (d : X) → i < length xs → f (get_or xs i d) ≡ None → slice_get (filter_map f (drop i xs)) 0 ≡ slice_get (filter_map f (drop (i + 1) xs)) 0
first-behind f xs i d within is = rw (drop_more xs i d within, is) refl

-- the guards of names say no as those at their places
pub no-named : (laws : Laws) (names : List (List ℕ)) (scene : Scene) (numbers places : List ℕ) → map (λ number. place_of (name_at names number) laws.guards) numbers ≡ map Some places → filter_map (no_at laws scene) places ≡ filter_map (λ number. no_named laws scene (name_at names number)) numbers
no-named laws names scene [] [] e = refl
no-named laws names scene [] (p ∷ places) e = cc
no-named laws names scene (n ∷ numbers) [] e = cc
no-named laws names scene (n ∷ numbers) (p ∷ places) e =
    let at : place_of (name_at names n) laws.guards ≡ Some p = cc in
    let rest : map (λ number. place_of (name_at names number) laws.guards) numbers ≡ map Some places = cc in
    rw (entry_of-place (name_at names n) laws.guards p at, no-named laws names scene numbers places rest) refl

-- a row is of a state and a kind by the places of its names
pub is_of-places : (laws : Laws) (table : Contents) (row : Row) (places : RowPlaces) (s : MachineState) (e : Event) → HasOwnNames laws.kinds → IsPlacesOf laws table row places → is_of table laws s e row ≡ ((row.state == s.state) && (places.kind == e.kind))
is_of-places laws table row places s e own at = rw (is_kind_of-place laws e.kind places.kind (name_at table.kinds row.kind) own at.kind) refl

-- one row more
pub rows-more : (f : (ℕ × Row) → List ℕ) (rows : List Row) (i : ℕ) (row : Row) → i < length rows → flat_map f (take (i + 1) (enumerate_from 0 rows)) ≡ flat_map f (take i (enumerate_from 0 rows)) ++ f (i, get_or rows i row)
rows-more f rows i row within =
    let inside : i < length (enumerate_from 0 rows) = rw (length-enumerate_from 0 rows) within in
    let at : get_or (enumerate_from 0 rows) i (0, row) ≡ (i, get_or rows i row) =
    get_or-enumerate_from 0 rows i (0, row) within ∙ ap (λ (k : ℕ). (k, get_or rows i row)) (zero-add i) in
    ap (flat_map f) (take_more (enumerate_from 0 rows) i (0, row) inside) ∙ flat_map-append f (take i (enumerate_from 0 rows)) (get_or (enumerate_from 0 rows) i (0, row) ∷ [])
    ∙ ap (λ l. flat_map f (take i (enumerate_from 0 rows)) ++ l) (append-nil (f (get_or (enumerate_from 0 rows) i (0, row))) ∙ ap f at)

-- so many rows stand before the one that took an event
pub rows_before-count : (table : Contents) (taken : Option ℕ) → take (count_before taken (length table.rows)) (enumerate_from 0 table.rows) ≡ rows_before table taken
rows_before-count table None = take_all (length table.rows) (enumerate_from 0 table.rows) (omega (arith, length-enumerate_from 0 table.rows))
rows_before-count table (Some number) =
    ap (λ count. take (min number count) (enumerate_from 0 table.rows)) (sym (length-enumerate_from 0 table.rows)) ∙ take_min number (enumerate_from 0 table.rows)

-- the first guard of a row that says no, by the places of its guards
pub first_no-places : (laws : Laws) (table : Contents) (row : Row) (places : RowPlaces) (scene : Scene) → IsPlacesOf laws table row places → first_no table laws scene row ≡ slice_get (filter_map (no_at laws scene) places.guards) 0
first_no-places laws table row places scene at = ap (λ l. slice_get l 0) (sym (no-named laws table.guards scene row.guards places.guards at.guards))

-- they are rows of the table
pub count_before-within : (taken : Option ℕ) (rows number end : ℕ) → end ≡ count_before taken rows → number < end → number < rows
count_before-within None rows number end is below = rw is at below
count_before-within (Some taken) rows number end is below = omega arith
