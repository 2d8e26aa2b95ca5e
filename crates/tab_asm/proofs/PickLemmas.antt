use Rattle.std.proofs.Common.{◌≡◌, ℕ, ◌+◌, ◌<◌, ◌≤◌, suc, zero, Bool, true, false, not, ◌&&◌, ◌==◌, List, [], ◌∷◌, length, map, get_or, arith, refl, sym, ap, ◌∙◌}
use Rattle.std.specs.List.{All, filter, enumerate_from, list_all, slice_get}
use Rattle.std.specs.Str.{bytes_eq}
use Rattle.std.proofs.lemmas.Bool.{eqb-true, eq-eqb}
use Rattle.std.proofs.lemmas.Bool.Decides.{same_from_decides, Decides-eqb, Decides-and}
use Rattle.std.proofs.lemmas.List.Elements.{All-head, All-tail, All-cons, All-nil, All-filter, All-weaker, filter_passes, All-get_or}
use Rattle.std.proofs.lemmas.Nat.{same_from_place}
use Rattle.std.proofs.lemmas.Slice.Eq.{bytes_eq-Decides}
use Rattle.tab_text.specs.Cells.{NamedRow}
use Rattle.tab_text.specs.Contents.{Contents, IsRowOf}
use Rattle.tab_text.specs.Rows.{distinct, names_of, row_named, IsNumberedTable}
use Rattle.tab_text.specs.declared.row.Row.{Row}
use Rattle.tab_step.specs.Moves.{name_at, matches, pick}
use Rattle.tab_asm.specs.Assembled.{entry_number, is_in, rows_in}
use Rattle.tab_asm.proofs.PathLemmas.{first_of}

-- names of which each differs from those behind it
abbrev Differ : List (List ℕ) → Type 0
Differ [] = Unit {0}
Differ (name ∷ names) = All (λ other. bytes_eq name other ≡ false) names × Differ names

differ-filter : (p : List ℕ → Bool) (names : List (List ℕ)) → Differ names → Differ (filter p names)
differ-filter p [] differ = tt
differ-filter p (name ∷ names) differ =
    by_test (p name) refl (differ-filter p names differ.1)
  where
    by_test : (test : Bool) → p name ≡ test → Differ (filter p names) → Differ (filter p (name ∷ names))
    by_test true is rest = rw is (All-filter p (λ other. bytes_eq name other ≡ false) names differ.0, rest)
    by_test false is rest = rw is rest

differ-distinct : (names : List (List ℕ)) → Differ (distinct names)
differ-distinct [] = tt
differ-distinct (name ∷ names) =
    let passed = filter_passes (λ other. not (bytes_eq name other)) (distinct names) in
    let apart = All-weaker (λ other. not (bytes_eq name other) ≡ true) (λ other. bytes_eq name other ≡ false) (λ other is. unlike (bytes_eq name other) is) (filter (λ other. not (bytes_eq name other)) (distinct names)) passed in
    (apart, differ-filter (λ other. not (bytes_eq name other)) (distinct names) (differ-distinct names))
  where
    unlike : (b : Bool) → not b ≡ true → b ≡ false
    unlike true is = cc
    unlike false is = refl

-- numbers of one name are one number
same-number : (names : List (List ℕ)) (i j : ℕ) → i < length names → j < length names → Differ names → bytes_eq (get_or names i []) (get_or names j []) ≡ true → i ≡ j
same-number [] i j under below differ is = absurd (omega arith)
same-number (name ∷ names) zero zero under below differ is = refl
same-number (name ∷ names) zero (suc j) under below differ is =
    let unlike = All-get_or (λ other. bytes_eq name other ≡ false) names j [] (omega arith) differ.0 in
    cc
same-number (name ∷ names) (suc i) zero under below differ is =
    let unlike = All-get_or (λ other. bytes_eq name other ≡ false) names i [] (omega arith) differ.0 in
    let turned : bytes_eq name (get_or names i []) ≡ true = (bytes_eq-Decides name (get_or names i [])).1 (sym ((bytes_eq-Decides (get_or names i []) name).0 is)) in
    cc
same-number (name ∷ names) (suc i) (suc j) under below differ is =
    ap suc (same-number names i j (omega arith) (omega arith) differ.1 is)

differ-kinds : (table : Contents) → IsNumberedTable table → Differ table.kinds
unfolding names_of
differ-kinds table is =
    let kinds : table.kinds ≡ distinct (map (λ (row : NamedRow). row.kind) (map (row_named table) table.rows)) = ap (λ n. n.kinds) is.by_appearance in
    rw kinds (differ-distinct _)

-- whether a row is one of an entry: by its number, or by state and name of the kind
in-entry : (table : Contents) (state kind : ℕ) (row : Row) → Differ table.kinds → kind < length table.kinds → row.kind < length table.kinds → is_in table (entry_number table state kind) row ≡ ((row.state == state) && bytes_eq (name_at table.kinds kind) (name_at table.kinds row.kind))
in-entry table state kind row differ under below =
    let K = length table.kinds in
    same_from_decides {P = (row.state ≡ state) × (name_at table.kinds kind ≡ name_at table.kinds row.kind)} _ _ (
      λ e. let both = same_from_place row.state row.kind state kind K below under (eqb-true _ _ e) in (both.0, ap (name_at table.kinds) (sym both.1)),
      λ same. let number = same-number table.kinds kind row.kind under below differ ((bytes_eq-Decides (name_at table.kinds kind) (name_at table.kinds row.kind)).1 same.1) in eq-eqb _ _ (rw (same.0, number) refl),
    )
    (Decides-and (row.state == state) (bytes_eq (name_at table.kinds kind) (name_at table.kinds row.kind)) (Decides-eqb row.state state) (bytes_eq-Decides (name_at table.kinds kind) (name_at table.kinds row.kind)))

-- a test behind a test keeps what both keep
filter-both : {X : Type 0} (p q m : X → Bool) (xs : List X) → All (λ x. (p x && q x) ≡ m x) xs → filter q (filter p xs) ≡ filter m xs
filter-both p q m [] all = refl
filter-both {X = X} p q m (x ∷ xs) all =
    let rest = filter-both p q m xs (All-tail (λ y. (p y && q y) ≡ m y) x xs all) in
    by_tests (p x) (q x) refl refl (All-head (λ y. (p y && q y) ≡ m y) x xs all) rest
  where
    by_tests : (a b : Bool) → p x ≡ a → q x ≡ b → (p x && q x) ≡ m x → filter q (filter p xs) ≡ filter m xs → filter q (filter p (x ∷ xs)) ≡ filter m (x ∷ xs)
    by_tests true true pa qb is rest = let one : m x ≡ true = sym is ∙ rw (pa, qb) refl in rw (pa, qb, one, rest) refl
    by_tests true false pa qb is rest = let one : m x ≡ false = sym is ∙ rw (pa, qb) refl in rw (pa, qb, one, rest) refl
    by_tests false b pa qb is rest = let one : m x ≡ false = sym is ∙ rw pa refl in rw (pa, one, rest) refl

each-numbered : (P : Row → Type 0) (from : ℕ) (rows : List Row) → All P rows → All (λ (n : ℕ × Row). P n.1) (enumerate_from from rows)
each-numbered P from [] all = All-nil (λ (n : ℕ × Row). P n.1)
each-numbered P from (row ∷ rows) all =
    All-cons (λ (n : ℕ × Row). P n.1) (from, row) (enumerate_from (from + 1) rows) (All-head P row rows all) (each-numbered P (from + 1) rows (All-tail P row rows all))

-- the first row of an entry whose guards say yes is the one that the table's definition picks
pub picked : (table : Contents) (state kind : ℕ) (answers : List ℕ → Bool) → IsNumberedTable table → kind < length table.kinds → first_of (λ guard. answers (name_at table.guards guard)) (rows_in table (entry_number table state kind)) ≡ pick table state (bytes_eq (name_at table.kinds kind)) answers
picked table state kind answers is under =
    let entry = entry_number table state kind in
    let p : ℕ × Row → Bool = λ n. is_in table entry n.1 in
    let q : ℕ × Row → Bool = λ n. list_all (λ guard. answers (name_at table.guards guard)) n.1.guards in
    let m : ℕ × Row → Bool = λ n. matches table state (bytes_eq (name_at table.kinds kind)) answers n.1 in
    let differ = differ-kinds table is in
    let one : (row : Row) → IsRowOf table row → (is_in table entry row && list_all (λ guard. answers (name_at table.guards guard)) row.guards) ≡ matches table state (bytes_eq (name_at table.kinds kind)) answers row = λ row well.
    ap (λ (test : Bool). test && list_all (λ guard. answers (name_at table.guards guard)) row.guards) (in-entry table state kind row differ under well.kind) in
    let each = All-weaker (IsRowOf table) (λ row. (is_in table entry row && list_all (λ guard. answers (name_at table.guards guard)) row.guards) ≡ matches table state (bytes_eq (name_at table.kinds kind)) answers row) one table.rows is.within.each_row in
    ap (λ (rows : List (ℕ × Row)). slice_get rows 0) (filter-both p q m (enumerate_from 0 table.rows) (each-numbered (λ row. (is_in table entry row && list_all (λ guard. answers (name_at table.guards guard)) row.guards) ≡ matches table state (bytes_eq (name_at table.kinds kind)) answers row) 0 table.rows each))

small-numbers : (from : ℕ) (rows : List Row) → from + length rows ≤ 4096 → All (λ (n : ℕ × Row). n.0 < 65536) (enumerate_from from rows)
small-numbers from [] few = All-nil (λ (n : ℕ × Row). n.0 < 65536)
small-numbers from (row ∷ rows) few =
    All-cons (λ (n : ℕ × Row). n.0 < 65536) (from, row) (enumerate_from (from + 1) rows) (omega (arith, few)) (small-numbers (from + 1) rows (omega (arith, few)))

pub small-rows : (table : Contents) (entry : ℕ) → IsNumberedTable table → All (λ (n : ℕ × Row). n.0 < 65536) (rows_in table entry)
small-rows table entry is =
    All-filter (λ (n : ℕ × Row). is_in table entry n.1) (λ (n : ℕ × Row). n.0 < 65536) (enumerate_from 0 table.rows) (small-numbers 0 table.rows (omega (arith, is.within.few_rows)))
