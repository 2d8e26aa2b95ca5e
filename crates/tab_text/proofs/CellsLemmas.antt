use Rattle.std.proofs.Common.{◌≡◌, ℕ, ◌≤◌, Bool, true, false, ◌||◌, ◌&&◌, ltb, nat_lt, List, [], ◌∷◌, ◌++◌, length, map, Option, Some, None, option_map, arith, refl, sym, ap, ◌∙◌}
use Rattle.std.specs.Str.{bytes_eq}
use Rattle.std.proofs.lemmas.Bool.Decides.{nat_tests}
use Rattle.std.proofs.lemmas.List.{map_push, length-map, append_assoc}
use Rattle.text_parts.specs.Words.{tokens}
use Rattle.tab_text.specs.Names.{is_name}
use Rattle.tab_text.specs.Cells.{Cells, NamedRow, names_apart, condition_of, actions_of, is_state, row_of}
use Rattle.tab_text.specs.Faults.{lacks_cell, has_many}
use Rattle.tab_text.specs.Passing.{own_fault}
use Rattle.text_parts.specs.Fronts.{values_in, IsFront}
use Rattle.tab_text.specs.Reading.{octets_in, few_names, named, IsFewOf, IsFrontOf, IsRowFront, IsRowFrontOf, IsOwnRow}
use Rattle.text_parts.specs.declared.front.Front.{Front}
use Rattle.tab_text.specs.declared.cells.RowNames.{RowNames}
use Rattle.tab_text.specs.declared.fault.TextCode.TheVariants.{TooManyInRow}
use Rattle.tab_text.proofs.NameLemmas.{name-short, front-whole}
use Rattle.tab_text.proofs.RoomLemmas.{Name}

abbrev Few : Type 0
Few = Front Name 8

-- the name that a word is
name-is : (word : List ℕ) (name : Name) → is_name word ≡ true → IsFront word name → word ≡ octets_in name
name-is word name is front = front-whole word name (name-short word is) front

-- the last of the names with a word between
pub names-last : (between : List ℕ) (all left behind : List (List ℕ)) (list : List Name) (word : List ℕ) (name : Name) (old new : Few) → names_apart between all ≡ option_map (λ more. map octets_in list ++ more) (names_apart between left) → left ≡ word ∷ behind → behind ≡ [] → true ≡ is_name word → IsFront word name → ((l : List Name) → IsFront l old → IsFront (l ++ name ∷ []) new) → IsFront list old → IsFrontOf (names_apart between all) new
names-last between all left behind list word name old new so_far left_is none is front push kept =
    let found : names_apart between all ≡ Some (map octets_in list ++ word ∷ []) = so_far ∙ rw (left_is, none, ← is) refl in
    let names : map octets_in list ++ word ∷ [] ≡ map octets_in (list ++ name ∷ []) = rw (name-is word name (sym is) front) (sym (map_push octets_in list name)) in
    rw found (list ++ name ∷ [], names, push list kept)

more-by : (found : Option (List (List ℕ))) (list : List Name) (word : List ℕ) (name : Name) → word ≡ octets_in name → option_map (λ more. map octets_in list ++ more) (option_map (λ names. word ∷ names) found) ≡ option_map (λ more. map octets_in (list ++ name ∷ []) ++ more) found
more-by None list word name is = refl
more-by (Some names) list word name is =
    ap Some (rw (map_push octets_in list name, is) (sym (append_assoc (map octets_in list) (octets_in name ∷ []) names)))

-- a name with the word behind it, and further names
pub names-more : (between : List ℕ) (all left behind rest : List (List ℕ)) (list : List Name) (word second : List ℕ) (name : Name) (old new : Few) → names_apart between all ≡ option_map (λ more. map octets_in list ++ more) (names_apart between left) → left ≡ word ∷ behind → behind ≡ second ∷ rest → true ≡ is_name word → bytes_eq second between ≡ true → IsFront word name → ((l : List Name) → IsFront l old → IsFront (l ++ name ∷ []) new) → IsFront list old → (l : List Name) × IsFront l new × (names_apart between all ≡ option_map (λ more. map octets_in l ++ more) (names_apart between rest))
names-more between all left behind rest list word second name old new so_far left_is behind_is is same front push kept =
    let step : names_apart between left ≡ option_map (λ names. word ∷ names) (names_apart between rest) = rw (left_is, behind_is, ← is, same) refl in
    let whole = so_far ∙ rw step (more-by (names_apart between rest) list word name (name-is word name (sym is) front)) in
    (list ++ name ∷ [], push list kept, whole)

under : (limit count : ℕ) → false ≡ nat_lt limit count → count ≤ limit
under limit count is = grind (arith, nat_tests)

-- a front that isn't over a limit is the whole list
whole-few : (names : List (List ℕ)) (few : Few) (limit : ℕ) → limit ≤ 8 → IsFewOf names few → false ≡ nat_lt limit (length names) → (names ≡ few_names few) × (length names ≤ limit)
whole-few names few limit within kept short =
    let list = kept.0 in
    let count : length names ≡ length list = rw (kept.1, length-map list octets_in) refl in
    let few_of : length names ≤ limit = under limit (length names) short in
    let whole : list ≡ values_in few = front-whole list few (omega (arith, count, few_of)) kept.2 in
    (kept.1 ∙ ap (map octets_in) whole, few_of)

pub few-over : (names : List (List ℕ)) (few : Few) (limit : ℕ) (over : Bool) → IsFewOf names few → ((list : List Name) → IsFront list few → over ≡ nat_lt limit (length list)) → over ≡ nat_lt limit (length names)
few-over names few limit over kept test =
    let count : length names ≡ length kept.0 = rw (kept.1, length-map kept.0 octets_in) refl in
    rw count (test kept.0 kept.2)

or-false : (a b : Bool) → false ≡ (a || b) → (false ≡ a) × (false ≡ b)
or-false true b is = cc
or-false false b is = (refl, is)

-- a row without a fault of its own
pub no-own-fault : (is_first : Bool) (cells : Cells) (found : Option NamedRow) (row : RowNames) → row_of cells ≡ found → IsRowFrontOf found row → row.line ≡ cells.line → lacks_cell is_first cells ≡ false → ((other : NamedRow) → IsRowFront other row → false ≡ has_many (Some other)) → IsOwnRow is_first cells row
unfolding own_fault
no-own-fault is_first cells None row is front line has few = absurd front
no-own-fault is_first cells (Some found) row is front line has few =
    let many = few found front in
    let both = or-false (ltb 4 (length found.guards)) (ltb 8 (length found.actions)) many in
    let g = whole-few found.guards row.guards 4 (omega arith) front.guards both.0 in
    let a = whole-few found.actions row.actions 8 (omega arith) front.actions both.1 in
    let same : ◌≡◌ {A = NamedRow} (record { state = found.state; kind = found.kind; guards = found.guards; actions = found.actions; next = found.next }) (named row) = rw (front.state, front.kind, g.0, a.0, front.next) refl in
    record {
      sound = rw (has, is, ← both.0, ← both.1) refl;
      found = is ∙ ap Some same;
      line = line;
      few_guards = rw (← g.0) g.1;
      few_actions = rw (← a.0) a.1;
    }

-- a row with too many guards or actions
pub many-fault : (is_first : Bool) (cells : Cells) (found : Option NamedRow) (row : RowNames) → row_of cells ≡ found → IsRowFrontOf found row → lacks_cell is_first cells ≡ false → ((other : NamedRow) → IsRowFront other row → true ≡ has_many (Some other)) → own_fault is_first cells ≡ Some TooManyInRow
unfolding own_fault
many-fault is_first cells None row is front has many = absurd front
many-fault is_first cells (Some found) row is front has many = rw (has, is, ← many found front) refl

state-is : (octets : List ℕ) (name : Name) → true ≡ is_state octets → IsFront octets name → octets ≡ octets_in name
state-is [] name is front = front-whole [] name (omega arith) front
state-is (b ∷ octets) name is front = name-is (b ∷ octets) name (sym is) front

-- what holds of three holds of each
pub each-of-three : (a b c : Bool) → true ≡ (a && b && c) → (true ≡ a) × (true ≡ b) × (true ≡ c)
each-of-three true true c is = (refl, refl, is)
each-of-three true false c is = cc
each-of-three false b c is = cc

-- what a row of cells spells, part by part
pub row-found : (cells : Cells) (kind : List ℕ) (condition : List (List ℕ)) (guards actions : Option (List (List ℕ))) (row : RowNames) → tokens cells.event ≡ kind ∷ condition → true ≡ is_state cells.state → true ≡ is_name kind → true ≡ is_name cells.next → condition_of condition ≡ guards → actions_of (tokens cells.action) ≡ actions → IsFrontOf guards row.guards → IsFrontOf actions row.actions → IsFront cells.state row.state → IsFront kind row.kind → IsFront cells.next row.next → IsRowFrontOf (row_of cells) row
unfolding row_of
row-found cells kind condition None actions row event state k n g a in_guards in_actions s kd nx = absurd in_guards
row-found cells kind condition (Some guards) None row event state k n g a in_guards in_actions s kd nx = absurd in_actions
row-found cells kind condition (Some guards) (Some actions) row event state k n g a in_guards in_actions s kd nx =
    rw (event, ← state, ← k, ← n, g, a) (record { state = state-is cells.state row.state state s; kind = name-is kind row.kind (sym k) kd; guards = in_guards; actions = in_actions; next = name-is cells.next row.next (sym n) nx })
