use Rattle.std.proofs.Common.{◌≡◌, ℕ, ◌<◌, suc, zero, ◌==◌, Bool, true, false, ◌||◌, List, [], ◌∷◌, Option, Some, None, option_map, codes, arith, refl, sym}
use Rattle.std.specs.List.{All}
use Rattle.std.specs.Str.{bytes_eq}
use Rattle.std.proofs.lemmas.List.Elements.{All-cons}
use Rattle.text_parts.specs.Words.{tokens}
use Rattle.tab_text.specs.Names.{is_name}
use Rattle.tab_text.specs.Cells.{Cells, NamedRow, names_apart, condition_of, is_dash, actions_of, joined, is_state, row_with, row_of}
use Rattle.tab_text.specs.Rows.{state_behind, IsWellNamed}
use Rattle.tab_text.specs.Faults.{is_empty, lacks_cell}
use Rattle.tab_text.specs.Passing.{own_fault}
use Rattle.tab_text.specs.declared.fault.TextCode.TheVariants.{EmptyCell}

abbrev AreNames : List (List ℕ) → Type 0
AreNames names = All (λ name. is_name name ≡ true) names

no-names : AreNames []
no-names = λ k d below. absurd (omega arith)

-- the names that a list was read as are names
abbrev AllNames : Option (List (List ℕ)) → Type 0
AllNames None = Unit
AllNames (Some names) = AreNames names

with-first : (guard : List ℕ) (rest : Option (List (List ℕ))) → is_name guard ≡ true → AllNames rest → AllNames (option_map (λ guards. guard ∷ guards) rest)
with-first guard None is all = tt
with-first guard (Some guards) is all = All-cons (λ name. is_name name ≡ true) guard guards is all

one-name : (between name : List ℕ) (test : Bool) → is_name name ≡ test → AllNames (names_apart between (name ∷ []))
one-name between name true is = rw is (All-cons (λ n. is_name n ≡ true) name [] is no-names)
one-name between name false is = rw is tt

more-names : (between name word : List ℕ) (rest : List (List ℕ)) (test other : Bool) → is_name name ≡ test → bytes_eq word between ≡ other → AllNames (names_apart between rest) → AllNames (names_apart between (name ∷ word ∷ rest))
more-names between name word rest true true is and all = rw (is, and) (with-first name (names_apart between rest) is all)
more-names between name word rest true false is and all = rw (is, and) tt
more-names between name word rest false other is and all = rw is tt

names-named : (between : List ℕ) (found : List (List ℕ)) → AllNames (names_apart between found)
names-named between [] = tt
names-named between (name ∷ []) = one-name between name (is_name name) refl
names-named between (name ∷ word ∷ rest) =
    more-names between name word rest (is_name name) (bytes_eq word between) refl refl (names-named between rest)

condition-cons : (word : List ℕ) (rest : List (List ℕ)) (test : Bool) → bytes_eq word (codes "when") ≡ test → AllNames (condition_of (word ∷ rest))
unfolding condition_of
condition-cons word rest true is = rw is (names-named (codes "and") rest)
condition-cons word rest false is = rw is tt

condition-none : AllNames (condition_of [])
unfolding condition_of
condition-none = no-names

condition-named : (found : List (List ℕ)) → AllNames (condition_of found)
condition-named [] = condition-none
condition-named (word ∷ rest) = condition-cons word rest (bytes_eq word (codes "when")) refl

actions-cases : (found : List (List ℕ)) (test : Bool) → is_dash found ≡ test → AllNames (actions_of found)
unfolding actions_of
actions-cases found true is = rw is no-names
actions-cases found false is = rw is (names-named (codes ",") found)

-- what is known of a row that cells spell, but for its state, which may be empty
abbrev IsSpelledRow : Cells → Option NamedRow → Type 0
IsSpelledRow cells None = Unit
IsSpelledRow cells (Some row) =
    (row.state ≡ cells.state) × (is_state row.state ≡ true) × (is_name row.kind ≡ true) × (is_name row.next ≡ true) × AreNames row.guards × AreNames row.actions

joined-named : (cells : Cells) (kind : List ℕ) (guards actions : Option (List (List ℕ))) → is_state cells.state ≡ true → is_name kind ≡ true → is_name cells.next ≡ true → AllNames guards → AllNames actions → IsSpelledRow cells (joined cells kind guards actions)
joined-named cells kind None actions s k n g a = tt
joined-named cells kind (Some guards) None s k n g a = tt
joined-named cells kind (Some guards) (Some actions) s k n g a = (refl, s, k, n, g, a)

cells-named : (cells : Cells) (kind : List ℕ) (condition : List (List ℕ)) (s k n : Bool) → is_state cells.state ≡ s → is_name kind ≡ k → is_name cells.next ≡ n → IsSpelledRow cells (row_with cells (kind ∷ condition))
cells-named cells kind condition true true true s k n =
    rw (s, k, n) (joined-named cells kind (condition_of condition) (actions_of (tokens cells.action)) s k n (condition-named condition) (actions-cases (tokens cells.action) (is_dash (tokens cells.action)) refl))
cells-named cells kind condition true true false s k n = rw (s, k, n) tt
cells-named cells kind condition true false test s k n = rw (s, k) tt
cells-named cells kind condition false other test s k n = rw s tt

row-with-named : (cells : Cells) (found : List (List ℕ)) → IsSpelledRow cells (row_with cells found)
row-with-named cells [] = tt
row-with-named cells (kind ∷ condition) =
    cells-named cells kind condition (is_state cells.state) (is_name kind) (is_name cells.next) refl refl refl

row-named : (cells : Cells) (row : NamedRow) → row_of cells ≡ Some row → IsSpelledRow cells (Some row)
unfolding row_of
row-named cells row is = rw is at (row-with-named cells (tokens cells.event))

or-last : (a b c : Bool) → (a || b || c || true) ≡ true
or-last true b c = refl
or-last false true c = refl
or-last false false true = refl
or-last false false false = refl

lacks-state : (cells : Cells) → cells.state ≡ [] → lacks_cell true cells ≡ true
lacks-state cells is = rw is (or-last (is_empty (tokens cells.event)) (is_empty (tokens cells.action)) (is_empty cells.next))

first-has-state : (cells : Cells) → cells.state ≡ [] → own_fault true cells ≡ None → ⊥
unfolding own_fault
first-has-state cells is sound =
    let lacks = lacks-state cells is in
    let fault : own_fault true cells ≡ Some EmptyCell = rw lacks refl in
    cc

state-cases : (before state : List ℕ) (cells : Cells) (count : ℕ) → own_fault (count == 0) cells ≡ None → state ≡ cells.state → is_state state ≡ true → (0 < count → is_name before ≡ true) → is_name (state_behind before state) ≡ true
state-cases before [] cells zero sound same good named = absurd (first-has-state cells (sym same) sound)
state-cases before [] cells (suc count) sound same good named = named (omega arith)
state-cases before (b ∷ state) cells count sound same good named = good

-- the names of a row without a fault of its own are well formed, its state being that of the row before where its cell is empty
pub well-named : (before : List ℕ) (cells : Cells) (row : NamedRow) (count : ℕ) → own_fault (count == 0) cells ≡ None → row_of cells ≡ Some row → (0 < count → is_name before ≡ true) → IsWellNamed (record row { state = state_behind before row.state })
well-named before cells row count sound is named =
    let parts = row-named cells row is in
    record {
      state = state-cases before row.state cells count sound parts.0 parts.1 named;
      kind = parts.2;
      next = parts.3;
      guards = parts.4;
      actions = parts.5;
    }
