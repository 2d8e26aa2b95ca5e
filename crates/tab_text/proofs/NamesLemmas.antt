use Rattle.std.proofs.Common.{◌≡◌, ℕ, ◌+◌, suc, Bool, true, false, not, ltb, List, [], ◌∷◌, ◌++◌, length, map, filter, arith, refl, inl, inr, sym, ◌∙◌}
use Rattle.std.specs.List.{list_any, flat_map}
use Rattle.std.specs.Str.{bytes_eq}
use Rattle.std.proofs.lemmas.Bool.{cases_lt}
use Rattle.std.proofs.lemmas.Bool.Decides.{nat_tests}
use Rattle.std.proofs.lemmas.List.{append-nil, append_assoc, map_push}
use Rattle.std.proofs.lemmas.List.Concat.{flat_map-append}
use Rattle.std.proofs.lemmas.List.Elements.{filter-append}
use Rattle.std.proofs.lemmas.Slice.Eq.{bytes_eq-Decides}
use Rattle.tab_text.specs.Cells.{NamedRow}
use Rattle.tab_text.specs.Rows.{distinct, place_of, names_of}
use Rattle.tab_text.specs.Rooms.{with_name, with_names, with_row}

-- a name is in a list
abbrev pub has : List (List ℕ) → List ℕ → Bool
has names name = list_any (λ other. bytes_eq other name) names

ltb-step : (m n : ℕ) → ltb (1 + m) (suc n) ≡ ltb m n
ltb-step m n =
    elim (cases_lt m n) [
      | inl below ↦ (let one : ltb (1 + m) (suc n) ≡ true = grind (arith, nat_tests) in let other : ltb m n ≡ true = grind (arith, nat_tests) in one ∙ sym other)
      | inr above ↦ (let one : ltb (1 + m) (suc n) ≡ false = grind (arith, nat_tests) in let other : ltb m n ≡ false = grind (arith, nat_tests) in one ∙ sym other)
    ]

there-cons : (first : List ℕ) (names : List (List ℕ)) (name : List ℕ) (test : Bool) → bytes_eq first name ≡ test → ltb (place_of names name) (length names) ≡ has names name → ltb (place_of (first ∷ names) name) (length (first ∷ names)) ≡ has (first ∷ names) name
unfolding place_of
there-cons first names name true is rest = rw is (grind (arith, nat_tests))
there-cons first names name false is rest =
    rw is (ltb-step (place_of names name) (length names) ∙ rest)

-- a name is in a list where its place is
pub there-is : (names : List (List ℕ)) (name : List ℕ) → ltb (place_of names name) (length names) ≡ has names name
unfolding place_of
there-is [] name = refl
there-is (first ∷ names) name = there-cons first names name (bytes_eq first name) refl (there-is names name)

with_name-there : (names : List (List ℕ)) (name : List ℕ) → has names name ≡ true → with_name names name ≡ names
with_name-there names name is = rw (there-is names name, is) refl

with_name-new : (names : List (List ℕ)) (name : List ℕ) → has names name ≡ false → with_name names name ≡ names ++ name ∷ []
with_name-new names name is = rw (there-is names name, is) refl

-- the names but this one
abbrev pub others : List ℕ → List (List ℕ) → List (List ℕ)
others name names = filter (λ other. not (bytes_eq name other)) names

others-has-cons : (name other first : List ℕ) (names : List (List ℕ)) (test : Bool) → bytes_eq name first ≡ test → bytes_eq name other ≡ false → has (others name names) other ≡ has names other → has (others name (first ∷ names)) other ≡ has (first ∷ names) other
others-has-cons name other first names true is apart rest =
    let same : name ≡ first = (bytes_eq-Decides name first).0 is in
    let unlike : bytes_eq first other ≡ false = rw same at apart in
    rw (is, unlike) rest
others-has-cons name other first names false is apart rest = rw (is, rest) refl

pub others-has : (name other : List ℕ) (names : List (List ℕ)) → bytes_eq name other ≡ false → has (others name names) other ≡ has names other
others-has name other [] apart = refl
others-has name other (first ∷ names) apart =
    others-has-cons name other first names (bytes_eq name first) refl apart (others-has name other names apart)

-- one more name at the end of a list
distinct-cases : (first name : List ℕ) (names : List (List ℕ)) (same there : Bool) → bytes_eq first name ≡ same → has names name ≡ there → first ∷ others first (with_name names name) ≡ with_name (first ∷ others first names) name
distinct-cases first name names true true s t = rw (with_name-there names name t, with_name-there (first ∷ others first names) name (rw s refl)) refl
distinct-cases first name names true false s t =
    rw (with_name-new names name t, with_name-there (first ∷ others first names) name (rw s refl), filter-append (λ other. not (bytes_eq first other)) names (name ∷ []), s, append-nil (others first names)) refl
distinct-cases first name names false true s t =
    rw (with_name-there names name t, with_name-there (first ∷ others first names) name (rw (s, others-has first name names s) t)) refl
distinct-cases first name names false false s t =
    rw (with_name-new names name t, with_name-new (first ∷ others first names) name (rw (s, others-has first name names s) t), filter-append (λ other. not (bytes_eq first other)) names (name ∷ []), s) refl

pub distinct-push : (names : List (List ℕ)) (name : List ℕ) → distinct (names ++ name ∷ []) ≡ with_name (distinct names) name
distinct-push [] name = sym (with_name-new [] name refl)
distinct-push (first ∷ names) name =
    rw (distinct-push names name) (distinct-cases first name (distinct names) (bytes_eq first name) (has (distinct names) name) refl refl)

-- more names at the end of a list
pub distinct-append : (names more : List (List ℕ)) → distinct (names ++ more) ≡ with_names (distinct names) more
distinct-append names [] = rw (append-nil names) refl
distinct-append names (name ∷ more) =
    let split : names ++ (name ∷ more) ≡ (names ++ name ∷ []) ++ more = sym (append_assoc names (name ∷ []) more) in
    rw (split, distinct-append (names ++ name ∷ []) more, distinct-push names name) refl

-- the names of rows with one more
pub names_of-push : (rows : List NamedRow) (row : NamedRow) → names_of (rows ++ row ∷ []) ≡ with_row (names_of rows) row
unfolding names_of with_row
names_of-push rows row =
    rw (flat_map-append (λ (r : NamedRow). r.state ∷ r.next ∷ []) rows (row ∷ []), flat_map-append (λ (r : NamedRow). r.guards) rows (row ∷ []), flat_map-append (λ (r : NamedRow). r.actions) rows (row ∷ []), map_push (λ (r : NamedRow). r.kind) rows row, distinct-push (map (λ (r : NamedRow). r.kind) rows) row.kind, append-nil row.guards, append-nil row.actions)
    (rw (distinct-append (flat_map (λ (r : NamedRow). r.state ∷ r.next ∷ []) rows) (row.state ∷ row.next ∷ []), distinct-append (flat_map (λ (r : NamedRow). r.guards) rows) row.guards, distinct-append (flat_map (λ (r : NamedRow). r.actions) rows) row.actions) refl)
