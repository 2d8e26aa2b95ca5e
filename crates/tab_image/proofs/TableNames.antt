use Rattle.std.proofs.Common.{◌≡◌, ℕ, Bool, true, false, not, is_none, List, [], ◌∷◌, ◌++◌, Option, Some, None, map, drop, slice_index_or, refl, ap, ◌∙◌}
use Rattle.std.specs.List.{All, AllZip, flat_map, filter, list_any}
use Rattle.std.specs.Str.{bytes_eq}
use Rattle.std.proofs.lemmas.List.Elements.{All-nil, All-head, All-tail, All-cons, All-append, All-weaker, All-filter, All-map, filter_passes}
use Rattle.std.proofs.lemmas.List.Folds.{list_any-append}
use Rattle.base_list.specs.Named.{place_of}
use Rattle.base_list.specs.declared.named.Named.{Named}
use Rattle.tab_law.specs.Books.{Laws}
use Rattle.tab_text.specs.Cells.{NamedRow}
use Rattle.tab_text.specs.Contents.{Contents}
use Rattle.tab_text.specs.Names.{is_name}
use Rattle.tab_text.specs.Rows.{distinct, names_of, row_named, name_at, IsWellNamed, IsNumberedTable}
use Rattle.tab_text.specs.declared.row.Row.{Row}
use Rattle.tab_step.specs.Bind.{BoundTable, IsPlacesOf, IsBoundTo}
use Rattle.tab_step.specs.declared.bound.RowPlaces.{RowPlaces}
use Rattle.tab_load.specs.Code.{EachAfter}
use Rattle.tab_load.specs.Names.{place_in, name_fault, AreNames}

-- names of which each differs from those behind it
abbrev pub Differ : List (List ℕ) → Type 0
Differ [] = Unit {0}
Differ (name ∷ names) = All (λ other. bytes_eq name other ≡ false) names × Differ names

differ-filter : (p : List ℕ → Bool) (names : List (List ℕ)) → Differ names → Differ (filter p names)
differ-filter p [] differ = tt
differ-filter p (name ∷ names) differ =
    by_test (p name) refl (differ-filter p names differ.1)
  where
    by_test : (test : Bool) → p name ≡ test → Differ (filter p names) → Differ (filter p (name ∷ names))
    by_test true is rest = rw is (All-filter p (λ other. bytes_eq name other ≡ false) names differ.0, rest)
    by_test false is rest = rw is rest

unlike : (b : Bool) → not b ≡ true → b ≡ false
unlike true is = cc
unlike false is = refl

differ-distinct : (names : List (List ℕ)) → Differ (distinct names)
differ-distinct [] = tt
differ-distinct (name ∷ names) =
    let passed = filter_passes (λ other. not (bytes_eq name other)) (distinct names) in
    let apart = All-weaker (λ other. not (bytes_eq name other) ≡ true) (λ other. bytes_eq name other ≡ false) (λ other is. unlike (bytes_eq name other) is) (filter (λ other. not (bytes_eq name other)) (distinct names)) passed in
    (apart, differ-filter (λ other. not (bytes_eq name other)) (distinct names) (differ-distinct names))

each-distinct : (P : List ℕ → Type 0) (names : List (List ℕ)) → All P names → All P (distinct names)
each-distinct P [] all = all
each-distinct P (name ∷ names) all =
    All-cons P name _ (All-head P name names all)
    (All-filter (λ other. not (bytes_eq name other)) P (distinct names) (each-distinct P names (All-tail P name names all)))

each-of : (P : List ℕ → Type 0) (f : NamedRow → List (List ℕ)) (rows : List NamedRow) → All (λ (row : NamedRow). All P (f row)) rows → All P (flat_map f rows)
each-of P f [] all = All-nil P
each-of P f (row ∷ rows) all =
    let Own : NamedRow → Type 0 = λ r. All P (f r) in
    All-append P (f row) (flat_map f rows) (All-head Own row rows all) (each-of P f rows (All-tail Own row rows all))

-- nothing is wrong with a name
no-fault : {T : Type 0} (bound : Bool) (entries : List (Named T)) (before : List (List ℕ)) (name : List ℕ) → is_name name ≡ true → list_any (λ other. bytes_eq other name) before ≡ false → is_none (place_in bound entries name) ≡ false → name_fault bound entries before name ≡ None
no-fault bound entries before name named new found = rw (named, new, found) refl

-- names that are spelled as names are, differ from each other and those before them, and are in the book
fine-behind : {T : Type 0} (bound : Bool) (entries : List (Named T)) (before names : List (List ℕ)) → All (λ name. is_name name ≡ true) names → All (λ name. list_any (λ other. bytes_eq other name) before ≡ false) names → Differ names → All (λ name. is_none (place_in bound entries name) ≡ false) names → EachAfter (λ b name. name_fault bound entries b name ≡ None) before names
fine-behind bound entries before [] named new differ found = tt
fine-behind bound entries before (name ∷ names) named new differ found =
    let New : List ℕ → Type 0 = λ n. list_any (λ other. bytes_eq other n) before ≡ false in
    let Named_so : List ℕ → Type 0 = λ n. is_name n ≡ true in
    let Found : List ℕ → Type 0 = λ n. is_none (place_in bound entries n) ≡ false in (
      no-fault bound entries before name (All-head Named_so name names named) (All-head New name names new) (All-head Found name names found),
      fine-behind bound entries (before ++ name ∷ []) names (All-tail Named_so name names named) (still names (All-tail New name names new) differ.0) differ.1 (All-tail Found name names found),
    )
  where
    still : (rest : List (List ℕ)) → All (λ n. list_any (λ other. bytes_eq other n) before ≡ false) rest → All (λ other. bytes_eq name other ≡ false) rest → All (λ n. list_any (λ other. bytes_eq other n) (before ++ name ∷ []) ≡ false) rest
    still [] new apart = All-nil (λ n. list_any (λ other. bytes_eq other n) (before ++ name ∷ []) ≡ false)
    still (n ∷ rest) new apart =
        let New : List ℕ → Type 0 = λ m. list_any (λ other. bytes_eq other m) before ≡ false in
        let Apart : List ℕ → Type 0 = λ m. bytes_eq name m ≡ false in
        let own : list_any (λ other. bytes_eq other n) (before ++ name ∷ []) ≡ false = list_any-append (λ other. bytes_eq other n) before (name ∷ []) ∙ rw (All-head New n rest new, All-head Apart n rest apart) refl in
        All-cons (λ m. list_any (λ other. bytes_eq other m) (before ++ name ∷ []) ≡ false) n rest own (still rest (All-tail New n rest new) (All-tail Apart n rest apart))

fine-names : {T : Type 0} (bound : Bool) (entries : List (Named T)) (names : List (List ℕ)) → All (λ name. is_name name ≡ true) names → All (λ name. is_none (place_in bound entries name) ≡ false) names → AreNames bound entries (distinct names)
fine-names bound entries names named found =
    let Named_so : List ℕ → Type 0 = λ n. is_name n ≡ true in
    let Found : List ℕ → Type 0 = λ n. is_none (place_in bound entries n) ≡ false in
    fine-behind bound entries [] (distinct names) (each-distinct Named_so names named) (none_before (distinct names)) (differ-distinct names) (each-distinct Found names found)
  where
    none_before : (rest : List (List ℕ)) → All (λ n. list_any (λ other. bytes_eq other n) [] ≡ false) rest
    none_before [] = All-nil (λ n. list_any (λ other. bytes_eq other n) [] ≡ false)
    none_before (n ∷ rest) = All-cons (λ m. list_any (λ other. bytes_eq other m) [] ≡ false) n rest refl (none_before rest)

-- a row's names are in the book
record IsFoundIn (laws : Laws) (row : NamedRow) : Type 0 where
  kind : is_none (place_of row.kind laws.kinds) ≡ false
  guards : All (λ name. is_none (place_of name laws.guards) ≡ false) row.guards
  actions : All (λ name. is_none (place_of name laws.acts) ≡ false) row.actions

each-found : {T : Type 0} (entries : List (Named T)) (names : List (List ℕ)) (numbers places : List ℕ) → map (λ number. place_of (name_at names number) entries) numbers ≡ map Some places → All (λ name. is_none (place_of name entries) ≡ false) (map (name_at names) numbers)
each-found entries names [] places is = All-nil (λ name. is_none (place_of name entries) ≡ false)
each-found entries names (number ∷ numbers) [] is = cc
each-found entries names (number ∷ numbers) (place ∷ places) is =
    let first : place_of (name_at names number) entries ≡ Some place = ap (λ (all : List (Option ℕ)). slice_index_or all 0 None) is in
    let rest : map (λ n. place_of (name_at names n) entries) numbers ≡ map Some places = ap (drop 1) is in
    All-cons (λ name. is_none (place_of name entries) ≡ false) (name_at names number) (map (name_at names) numbers) (rw first refl) (each-found entries names numbers places rest)

row-found : (laws : Laws) (table : Contents) (row : Row) (places : RowPlaces) → IsPlacesOf laws table row places → IsFoundIn laws (row_named table row)
unfolding row_named
row-found laws table row places is = record {
  kind = rw is.kind refl;
  guards = each-found laws.guards table.guards row.guards places.guards is.guards;
  actions = each-found laws.acts table.actions row.actions places.actions is.actions;
}

rows-found : (laws : Laws) (table : Contents) (rows : List Row) (places : List RowPlaces) → AllZip (IsPlacesOf laws table) rows places → All (IsFoundIn laws) (map (row_named table) rows)
rows-found laws table [] places is = All-nil (IsFoundIn laws)
rows-found laws table (row ∷ rows) [] is = absurd is
rows-found laws table (row ∷ rows) (own ∷ places) is =
    All-cons (IsFoundIn laws) (row_named table row) (map (row_named table) rows) (row-found laws table row own is.0) (rows-found laws table rows places is.1)

-- nothing is wrong with the names of a table that is bound to a book
pub record HasFineNames (laws : Laws) (table : Contents) : Type 0 where
  pub states : AreNames false laws.kinds table.states
  pub kinds : AreNames true laws.kinds table.kinds
  pub guards : AreNames true laws.guards table.guards
  pub actions : AreNames true laws.acts table.actions

two-named : (row : NamedRow) → IsWellNamed row → All (λ name. is_name name ≡ true) (row.state ∷ row.next ∷ [])
two-named row well =
    let P : List ℕ → Type 0 = λ name. is_name name ≡ true in
    All-cons P row.state (row.next ∷ []) well.state (All-cons P row.next [] well.next (All-nil P))

any-found : {T : Type 0} (entries : List (Named T)) (names : List (List ℕ)) → All (λ name. is_none (place_in false entries name) ≡ false) names
any-found entries [] = All-nil (λ name. is_none (place_in false entries name) ≡ false)
any-found entries (name ∷ names) = All-cons (λ n. is_none (place_in false entries n) ≡ false) name names refl (any-found entries names)

pub fine-table : (laws : Laws) (bound : BoundTable) → IsNumberedTable bound.table → IsBoundTo bound laws → HasFineNames laws bound.table
unfolding names_of
fine-table laws bound is fits =
    let table = bound.table in
    let rows = map (row_named table) table.rows in
    let well = is.well_named in
    let found = rows-found laws table table.rows bound.places fits in
    let Good : List ℕ → Type 0 = λ name. is_name name ≡ true in
    let Kind : List ℕ → Type 0 = λ name. is_none (place_of name laws.kinds) ≡ false in
    let Guard : List ℕ → Type 0 = λ name. is_none (place_of name laws.guards) ≡ false in
    let Act : List ℕ → Type 0 = λ name. is_none (place_of name laws.acts) ≡ false in
    let state_names : table.states ≡ distinct (flat_map (λ (row : NamedRow). row.state ∷ row.next ∷ []) rows) = ap (λ n. n.states) is.by_appearance in
    let kind_names : table.kinds ≡ distinct (map (λ (row : NamedRow). row.kind) rows) = ap (λ n. n.kinds) is.by_appearance in
    let guard_names : table.guards ≡ distinct (flat_map (λ (row : NamedRow). row.guards) rows) = ap (λ n. n.guards) is.by_appearance in
    let action_names : table.actions ≡ distinct (flat_map (λ (row : NamedRow). row.actions) rows) = ap (λ n. n.actions) is.by_appearance in
    record {
      states = rw state_names (fine-names false laws.kinds _ (each-of Good (λ (row : NamedRow). row.state ∷ row.next ∷ []) rows (All-weaker IsWellNamed (λ (row : NamedRow). All Good (row.state ∷ row.next ∷ [])) two-named rows well)) (any-found laws.kinds _));
      kinds = rw kind_names (fine-names true laws.kinds _ (All-map Good (λ (row : NamedRow). row.kind) rows (All-weaker IsWellNamed (λ (row : NamedRow). Good row.kind) (λ row own. own.kind) rows well)) (All-map Kind (λ (row : NamedRow). row.kind) rows (All-weaker (IsFoundIn laws) (λ (row : NamedRow). Kind row.kind) (λ row own. own.kind) rows found)));
      guards = rw guard_names (fine-names true laws.guards _ (each-of Good (λ (row : NamedRow). row.guards) rows (All-weaker IsWellNamed (λ (row : NamedRow). All Good row.guards) (λ row own. own.guards) rows well)) (each-of Guard (λ (row : NamedRow). row.guards) rows (All-weaker (IsFoundIn laws) (λ (row : NamedRow). All Guard row.guards) (λ row own. own.guards) rows found)));
      actions = rw action_names (fine-names true laws.acts _ (each-of Good (λ (row : NamedRow). row.actions) rows (All-weaker IsWellNamed (λ (row : NamedRow). All Good row.actions) (λ row own. own.actions) rows well)) (each-of Act (λ (row : NamedRow). row.actions) rows (All-weaker (IsFoundIn laws) (λ (row : NamedRow). All Act row.actions) (λ row own. own.actions) rows found)));
    }
