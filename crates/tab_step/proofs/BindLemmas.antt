use Rattle.std.proofs.Common.{◌≡◌, ℕ, ◌+◌, ◌<◌, suc, zero, Bool, true, false, cond, List, [], ◌∷◌, ◌++◌, Option, Some, None, length, map, take, filter, get_or, arith, refl, ap, sym, ◌∙◌}
use Rattle.std.specs.List.{slice_get, flat_map, AllZip}
use Rattle.std.specs.Prelude.{All}
use Rattle.std.specs.List.{AllByRecursion, position_or_len}
use Rattle.std.specs.Prelude.{nat_lt}
use Rattle.std.specs.Str.{bytes_eq}
use Rattle.std.proofs.lemmas.List.{take_more, get_or_default}
use Rattle.std.proofs.lemmas.List.Elements.{All-from_recursion}
use Rattle.base_list.specs.Named.{place_of}
use Rattle.base_list.specs.declared.named.Named.{Named}
use Rattle.tab_law.specs.Books.{Laws}
use Rattle.tab_text.specs.Contents.{Contents}
use Rattle.tab_text.specs.declared.row.Row.{Row}
use Rattle.tab_step.specs.Moves.{name_at}
use Rattle.tab_step.specs.Bind.{BoundTable, IsPlacesOf, IsBoundTo, lacking, lacking_in}
use Rattle.tab_step.specs.declared.bound.RowPlaces.{RowPlaces}

is-no : {X : Type 0} (b : Bool) (x : X) (xs : List X) → cond b (x ∷ xs) xs ≡ [] → (b ≡ false) × (xs ≡ [])
is-no true x xs n = cc
is-no false x xs n = (refl, n)

-- the first of those that pass, where none before it does
pub first-filter : {N X : Type 0} (p : X → Bool) (f : N → X) (ns : List N) (i : ℕ) (d : N) → i < length ns → filter p (map f (take i ns)) ≡ [] → p (f (get_or ns i d)) ≡ true → slice_get (filter p (map f ns)) 0 ≡ Some (f (get_or ns i d))
first-filter p f [] i d l n t = absurd (omega arith)
first-filter p f (x ∷ ns) zero d l n t = rw t refl
first-filter p f (x ∷ ns) (suc i) d l n t =
    let no = is-no (p (f x)) (f x) (filter p (map f (take i ns))) n in
    rw (no.0) (first-filter p f ns i d (omega arith) no.1 t)

-- one more that doesn't pass
pub filter-more : {N X : Type 0} (p : X → Bool) (f : N → X) (ns : List N) (x : N) → filter p (map f ns) ≡ [] → p (f x) ≡ false → filter p (map f (ns ++ x ∷ [])) ≡ []
filter-more p f [] x n t = rw t refl
filter-more p f (y ∷ ns) x n t =
    let no = is-no (p (f y)) (f y) (filter p (map f ns)) n in
    rw (no.0) (filter-more p f ns x no.1 t)

-- what is first in a front is first in the whole
pub first-append : {X : Type 0} (xs ys : List X) (x : X) → slice_get xs 0 ≡ Some x → slice_get (xs ++ ys) 0 ≡ Some x
first-append [] ys x h = cc
first-append (z ∷ xs) ys x h = h

nil-append : {X : Type 0} (xs ys : List X) → xs ++ ys ≡ [] → (xs ≡ []) × (ys ≡ [])
nil-append [] ys h = (refl, h)
nil-append (x ∷ xs) ys h = cc

-- what is first of the first row that gives any
pub first-flat_map : {R X : Type 0} (f : R → List X) (rows : List R) (i : ℕ) (d : R) (x : X) → i < length rows → flat_map f (take i rows) ≡ [] → slice_get (f (get_or rows i d)) 0 ≡ Some x → slice_get (flat_map f rows) 0 ≡ Some x
first-flat_map f [] i d x l n h = absurd (omega arith)
first-flat_map f (r ∷ rows) zero d x l n h = first-append (f r) (flat_map f rows) x h
first-flat_map f (r ∷ rows) (suc i) d x l n h =
    let no = nil-append (f r) (flat_map f (take i rows)) n in
    rw (no.0) (first-flat_map f rows i d x (omega arith) no.1 h)

-- one more row that gives none
pub flat_map-more : {R X : Type 0} (f : R → List X) (rows : List R) (row : R) → flat_map f rows ≡ [] → f row ≡ [] → flat_map f (rows ++ row ∷ []) ≡ []
flat_map-more f [] row n h = rw h refl
flat_map-more f (r ∷ rows) row n h =
    let no = nil-append (f r) (flat_map f rows) n in
    rw (no.0) (flat_map-more f rows row no.1 h)

-- a row gives none where all rows do
pub flat_map-none : {R X : Type 0} (f : R → List X) (rows : List R) (i : ℕ) (d : R) → i < length rows → flat_map f rows ≡ [] → f (get_or rows i d) ≡ []
flat_map-none f [] i d l n = absurd (omega arith)
flat_map-none f (r ∷ rows) zero d l n = (nil-append (f r) (flat_map f rows) n).0
flat_map-none f (r ∷ rows) (suc i) d l n = flat_map-none f rows i d (omega arith) (nil-append (f r) (flat_map f rows) n).1

-- relations of rows, one more
pub AllZip-more : {A B : Type 0} (R : A → B → Type 0) (xs : List A) (ys : List B) (x : A) (y : B) → AllZip R xs ys → R x y → AllZip R (xs ++ x ∷ []) (ys ++ y ∷ [])
AllZip-more R [] [] x y a r = (r, tt)
AllZip-more R [] (z ∷ ys) x y a r = absurd a
AllZip-more R (z ∷ xs) [] x y a r = absurd a
AllZip-more R (z ∷ xs) (w ∷ ys) x y a r = (a.0, AllZip-more R xs ys x y a.1 r)

pub AllZip-length : {A B : Type 0} (R : A → B → Type 0) (xs : List A) (ys : List B) → AllZip R xs ys → length xs ≡ length ys
AllZip-length R [] [] a = refl
AllZip-length R [] (y ∷ ys) a = absurd a
AllZip-length R (x ∷ xs) [] a = absurd a
AllZip-length R (x ∷ xs) (y ∷ ys) a = ap suc (AllZip-length R xs ys a.1)

-- what is related at each place
pub AllZip-at : {A B : Type 0} (R : A → B → Type 0) (xs : List A) (ys : List B) (i : ℕ) (d : A) (e : B) → AllZip R xs ys → i < length xs → R (get_or xs i d) (get_or ys i e)
AllZip-at R [] ys i d e a l = absurd (omega arith)
AllZip-at R (x ∷ xs) [] i d e a l = absurd a
AllZip-at R (x ∷ xs) (y ∷ ys) zero d e a l = a.0
AllZip-at R (x ∷ xs) (y ∷ ys) (suc i) d e a l = AllZip-at R xs ys i d e a.1 (omega arith)

pub map-more : {A B : Type 0} (f : A → B) (xs : List A) (x : A) → map f (xs ++ x ∷ []) ≡ map f xs ++ f x ∷ []
map-more f [] x = refl
map-more {B = B} f (y ∷ xs) x = ap (λ (r : List B). f y ∷ r) (map-more f xs x)

-- one more place that was found
pub places-more : {X : Type 0} (f : X → Option ℕ) (xs : List X) (i : ℕ) (d : X) (places : List ℕ) (place : ℕ) → i < length xs → f (get_or xs i d) ≡ Some place → map f (take i xs) ≡ map Some places → map f (take (i + 1) xs) ≡ map Some (places ++ place ∷ [])
places-more f xs i d places place l at m =
    rw (take_more xs i d l, map-more f (take i xs) (get_or xs i d), map-more Some places place, m, at) refl

-- a name that code reads from a table's list is the one of its number there
pub name-is : (names all : List (List ℕ)) (number : ℕ) (item name : List ℕ) → all ≡ names → item ≡ get_or all number item → name ≡ item → number < length names → name ≡ name_at names number
name-is names all number item name whole read same l =
    let there : get_or names number item ≡ get_or names number [] = get_or_default names number item [] l in
    let e : item ≡ get_or names number item = rw whole at read in
    same ∙ e ∙ there

within-length : (i n l : ℕ) → cond (nat_lt i l) (Some i) None ≡ Some n → n < l
within-length i n l h =
    let by : (b : Bool) → nat_lt i l ≡ b → cond b (Some i) None ≡ Some n → n < l = λ b is e. in_cases b is e in
    by (nat_lt i l) refl h
  where
    in_cases : (b : Bool) → nat_lt i l ≡ b → cond b (Some i) None ≡ Some n → n < l
    in_cases true is e = let same : i ≡ n = cc in grind arith
    in_cases false is e = cc

-- the place of a name is in the list
pub place-within : {T : Type 0} (entries : List (Named T)) (name : List ℕ) (place : ℕ) → place_of name entries ≡ Some place → place < length entries
place-within entries name place h = within-length (position_or_len (λ entry. bytes_eq entry.name name) entries) place (length entries) h

each-in : {T : Type 0} (entries : List (Named T)) (name_of : ℕ → List ℕ) (numbers places : List ℕ) → map (λ number. place_of (name_of number) entries) numbers ≡ map Some places → AllByRecursion (λ place. place < length entries) places
each-in entries name_of [] [] e = tt
each-in entries name_of [] (p ∷ places) e = cc
each-in entries name_of (n ∷ numbers) [] e = cc
each-in entries name_of (n ∷ numbers) (p ∷ places) e =
    let at : place_of (name_of n) entries ≡ Some p = cc in
    let rest : map (λ number. place_of (name_of number) entries) numbers ≡ map Some places = cc in
    (place-within entries (name_of n) p at, each-in entries name_of numbers places rest)

-- what stands at the places of names is in the list
pub places-in : {T : Type 0} (entries : List (Named T)) (name_of : ℕ → List ℕ) (numbers places : List ℕ) → map (λ number. place_of (name_of number) entries) numbers ≡ map Some places → All (λ place. place < length entries) places
places-in entries name_of numbers places e = All-from_recursion _ _ (each-in entries name_of numbers places e)

pub as-many : {X : Type 0} (f : X → Option ℕ) (xs : List X) (places : List ℕ) → map f xs ≡ map Some places → length xs ≡ length places
as-many f [] [] e = refl
as-many f [] (p ∷ places) e = cc
as-many f (x ∷ xs) [] e = cc
as-many f (x ∷ xs) (p ∷ places) e =
    let rest : map f xs ≡ map Some places = cc in
    ap suc (as-many f xs places rest)

-- nothing is first of nothing
pub none-first : {X : Type 0} (xs : List X) (x : X) → xs ≡ [] → slice_get xs 0 ≡ Some x → ⊥
none-first [] x e h = cc
none-first (y ∷ xs) x e h = cc

-- the places of the row of that number, as code reads them
pub places-at : (laws : Laws) (bound : BoundTable) (number : ℕ) (row : Row) (places : RowPlaces) → IsBoundTo bound laws → number < length bound.table.rows → places ≡ get_or bound.places number places → IsPlacesOf laws bound.table (get_or bound.table.rows number row) places
places-at laws bound number row places b l e = rw e (AllZip-at (IsPlacesOf laws bound.table) bound.table.rows bound.places number row places b l)

-- what a row lacks first: its kind
pub lacking_in-kind : (laws : Laws) (table : Contents) (row : Row) → place_of (name_at table.kinds row.kind) laws.kinds ≡ None → slice_get (lacking_in laws table row) 0 ≡ Some (name_at table.kinds row.kind)
lacking_in-kind laws table row none =
    first-append _ _ _ (first-append (lacking laws.kinds (name_at table.kinds row.kind ∷ [])) _ _ (rw none refl))

-- or the first of its guards
pub lacking_in-guards : (laws : Laws) (table : Contents) (row : Row) (kind : ℕ) (name : List ℕ) → place_of (name_at table.kinds row.kind) laws.kinds ≡ Some kind → slice_get (lacking laws.guards (map (name_at table.guards) row.guards)) 0 ≡ Some name → slice_get (lacking_in laws table row) 0 ≡ Some name
lacking_in-guards laws table row kind name some first =
    first-append (lacking laws.kinds (name_at table.kinds row.kind ∷ []) ++ lacking laws.guards (map (name_at table.guards) row.guards)) _ _ (rw some first)

-- the row of a number, as code reads it
pub row-at : (rows all : List Row) (number : ℕ) (row item : Row) → all ≡ rows → number < length rows → item ≡ get_or all number item → get_or rows number row ≡ item
row-at rows all number row item same l e =
    let e : item ≡ get_or rows number item = rw same at e in
    get_or_default rows number row item l ∙ sym e
