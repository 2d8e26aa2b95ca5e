use Rattle.std.proofs.Common.{◌≡◌, ℕ, ◌+◌, ◌<◌, ◌≤◌, true, false, ltb, leb, not, List, [], ◌∷◌, ◌++◌, length, map, take, drop, get_or, arith, refl, sym, ap, ◌∙◌, inl, inr}
use Rattle.std.specs.Str.{bytes_eq}
use Rattle.std.proofs.lemmas.Bool.{cases_lt}
use Rattle.std.proofs.lemmas.Bool.Decides.{nat_tests}
use Rattle.std.proofs.lemmas.List.{length-append, get_or-map, map-append, take-append-drop, drop_more}
use Rattle.std.proofs.lemmas.List.Sums.{prefix_len_is, fold-append}
use Rattle.tab_text.specs.Rows.{place_of}
use Rattle.tab_text.specs.Rooms.{with_name, with_names}
use Rattle.tab_text.specs.Reading.{octets_in}
use Rattle.text_parts.specs.declared.front.Front.{Front}

abbrev pub Name : Type 0
Name = Front ℕ 40

-- the place of a name: none before it is the name, and the one there is
pub place_of-at : (names : List (List ℕ)) (name : List ℕ) (place : ℕ) → place ≤ length names → ((k : ℕ) → k < place → bytes_eq (get_or names k []) name ≡ false) → (place < length names → bytes_eq (get_or names place []) name ≡ true) → place ≡ place_of names name
unfolding place_of
place_of-at names name place within before here =
    sym (prefix_len_is (λ other. not (bytes_eq other name)) names place [] within (λ k below. rw (before k below) refl) (λ inside. rw (here inside) refl))

-- a name that isn't there yet goes behind the others
pub with_name-new : (names : List (List ℕ)) (name : List ℕ) → length names ≤ place_of names name → with_name names name ≡ names ++ name ∷ []
with_name-new names name new = let isnt : ltb (place_of names name) (length names) ≡ false = grind (arith, nat_tests) in rw isnt refl

leb-false-from : (small large limit : ℕ) → leb small limit ≡ false → small ≤ large → leb large limit ≡ false
leb-false-from small large limit over grown = grind (arith, nat_tests)

-- names only grow
pub length-with_name : (names : List (List ℕ)) (name : List ℕ) → length names ≤ length (with_name names name)
length-with_name names name =
    elim (cases_lt (place_of names name) (length names)) [
      | inl there ↦ (let yes : ltb (place_of names name) (length names) ≡ true = grind (arith, nat_tests) in rw yes (omega arith))
      | inr new ↦ (let isnt : ltb (place_of names name) (length names) ≡ false = grind (arith, nat_tests) in rw isnt (omega (arith, length-append names (name ∷ []))))
    ]

pub length-with_names : (names more : List (List ℕ)) → length names ≤ length (with_names names more)
length-with_names names [] = omega arith
length-with_names names (name ∷ more) = omega (arith, length-with_name names name, length-with_names (with_name names name) more)

-- where the names up to one have no room, all have none
pub with_names-over : (names : List (List ℕ)) (more : List Name) (place limit : ℕ) (d : Name) → place < length more → leb (length (with_name (with_names names (map octets_in (take place more))) (octets_in (get_or more place d)))) limit ≡ false → leb (length (with_names names (map octets_in more))) limit ≡ false
with_names-over names more place limit d below over =
    let front = with_names names (map octets_in (take place more)) in
    let found : List ℕ = octets_in (get_or more place d) in
    let behind : List (List ℕ) = map octets_in (drop (place + 1) more) in
    let split : more ≡ take place more ++ (get_or more place d ∷ drop (place + 1) more) = rw (← drop_more more place d below) (sym (take-append-drop place more)) in
    let halves : map octets_in more ≡ map octets_in (take place more) ++ (found ∷ behind) = ap (map octets_in) split ∙ map-append octets_in (take place more) (get_or more place d ∷ drop (place + 1) more) in
    let whole : with_names names (map octets_in more) ≡ with_names (with_name front found) behind = ap (with_names names) halves ∙ fold-append with_name names (map octets_in (take place more)) (found ∷ behind) in
    let grown = length-with_names (with_name front found) behind in
    rw whole (leb-false-from (length (with_name front found)) _ limit over grown)

-- a name that was found at a place of a room
pub name-found : (names items : List Name) (place : ℕ) (d : Name) (found : List ℕ) → items ≡ names → place < length items → found ≡ octets_in (get_or items place d) → get_or (map octets_in names) place [] ≡ found
name-found names items place d found same below is = rw (← same) (get_or-map octets_in items place d [] below ∙ sym is)
