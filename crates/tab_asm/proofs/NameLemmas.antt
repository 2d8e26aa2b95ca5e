use Rattle.std.proofs.Common.{◌≡◌, ℕ, ◌<◌, Bool, true, false, not, ◌&&◌, leb, List, [], ◌∷◌, length, map, codes, arith, refl, ap}
use Rattle.std.specs.List.{All, flat_map}
use Rattle.std.specs.Str.{bytes_eq}
use Rattle.std.proofs.lemmas.Bool.Decides.{nat_tests}
use Rattle.std.proofs.lemmas.List.Elements.{All-nil, All-head, All-tail, All-cons, All-append, All-weaker, All-filter, All-map}
use Rattle.tab_text.specs.Cells.{NamedRow}
use Rattle.tab_text.specs.Contents.{Contents}
use Rattle.tab_text.specs.Names.{is_spelled, is_name}
use Rattle.tab_text.specs.Rows.{distinct, names_of, row_named, IsWellNamed, IsNumberedTable}

and-left : (a b : Bool) → (a && b) ≡ true → a ≡ true
and-left true b is = refl
and-left false b is = is

and-right : (a b : Bool) → (a && b) ≡ true → b ≡ true
and-right true b is = is
and-right false b is = cc

-- the length of a name fits into an octet
abbrev pub IsShort : List ℕ → Type 0
IsShort name = length name < 256

short-name : (name : List ℕ) → is_name name ≡ true → IsShort name
unfolding is_name
short-name name is =
    let spelled = is_spelled name in
    let small = leb (length name) 40 in
    let one = not (bytes_eq name (codes "when")) in
    let two = not (bytes_eq name (codes "and")) in
    let few : leb (length name) 40 ≡ true = and-right spelled small (and-left (spelled && small) one (and-left (spelled && small && one) two is)) in
    grind (arith, nat_tests)

each-distinct : (names : List (List ℕ)) → All IsShort names → All IsShort (distinct names)
each-distinct [] all = all
each-distinct (name ∷ names) all =
    All-cons IsShort name _ (All-head IsShort name names all)
    (All-filter (λ other. not (bytes_eq name other)) IsShort (distinct names) (each-distinct names (All-tail IsShort name names all)))

each-of : (f : NamedRow → List (List ℕ)) (rows : List NamedRow) → All (λ (row : NamedRow). All IsShort (f row)) rows → All IsShort (flat_map f rows)
each-of f [] all = All-nil IsShort
each-of f (row ∷ rows) all =
    let Own : NamedRow → Type 0 = λ r. All IsShort (f r) in
    All-append IsShort (f row) (flat_map f rows) (All-head Own row rows all) (each-of f rows (All-tail Own row rows all))

short-names : (names : List (List ℕ)) → All (λ name. is_name name ≡ true) names → All IsShort names
short-names names all = All-weaker (λ name. is_name name ≡ true) IsShort short-name names all

two-short : (row : NamedRow) → IsWellNamed row → All IsShort (row.state ∷ row.next ∷ [])
two-short row well =
    All-cons IsShort row.state (row.next ∷ []) (short-name row.state well.state)
    (All-cons IsShort row.next [] (short-name row.next well.next) (All-nil IsShort))

-- the names of a table are short
pub record AreShort (table : Contents) : Type 0 where
  pub states : All IsShort table.states
  pub kinds : All IsShort table.kinds
  pub guards : All IsShort table.guards
  pub actions : All IsShort table.actions

pub short-table : (table : Contents) → IsNumberedTable table → AreShort table
unfolding names_of
short-table table is =
    let rows = map (row_named table) table.rows in
    let well = is.well_named in
    let state_names : table.states ≡ distinct (flat_map (λ (row : NamedRow). row.state ∷ row.next ∷ []) rows) = ap (λ n. n.states) is.by_appearance in
    let kind_names : table.kinds ≡ distinct (map (λ (row : NamedRow). row.kind) rows) = ap (λ n. n.kinds) is.by_appearance in
    let guard_names : table.guards ≡ distinct (flat_map (λ (row : NamedRow). row.guards) rows) = ap (λ n. n.guards) is.by_appearance in
    let action_names : table.actions ≡ distinct (flat_map (λ (row : NamedRow). row.actions) rows) = ap (λ n. n.actions) is.by_appearance in
    record {
      states = rw state_names (each-distinct _ (each-of (λ (row : NamedRow). row.state ∷ row.next ∷ []) rows (All-weaker IsWellNamed (λ (row : NamedRow). All IsShort (row.state ∷ row.next ∷ [])) two-short rows well)));
      kinds = rw kind_names (each-distinct _ (All-map IsShort (λ (row : NamedRow). row.kind) rows (All-weaker IsWellNamed (λ (row : NamedRow). IsShort row.kind) (λ row own. short-name row.kind own.kind) rows well)));
      guards = rw guard_names (each-distinct _ (each-of (λ (row : NamedRow). row.guards) rows (All-weaker IsWellNamed (λ (row : NamedRow). All IsShort row.guards) (λ row own. short-names row.guards own.guards) rows well)));
      actions = rw action_names (each-distinct _ (each-of (λ (row : NamedRow). row.actions) rows (All-weaker IsWellNamed (λ (row : NamedRow). All IsShort row.actions) (λ row own. short-names row.actions own.actions) rows well)));
    }
