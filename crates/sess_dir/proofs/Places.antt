-- Places of names, over the stored names and over their octets.
use Rattle.std.proofs.Common.{◌≡◌, ℕ, ◌+◌, ◌<◌, Bool, true, false, not, cond, List, [], ◌∷◌, ◌++◌, length, map, position, slice_get, Some, None, get_or, Contains, refl, sym, ap, subst, ◌∙◌, inl, inr, true≢false, is_some, if◌then◌else◌, lt-ltb, arith}
use Rattle.std.specs.Global.{Vec}
use Rattle.std.specs.List.{All, position_or_len, prefix_len, IsDistinct}
use Rattle.std.specs.Str.{bytes_eq}
use Rattle.std.proofs.lemmas.List.{length-map, length-append, map-append, get_or_append_left, get_or_push}
use Rattle.std.proofs.lemmas.List.Folds.{list_any_none}
use Rattle.std.proofs.lemmas.List.Sums.{fails_before_first, position_or_len_is}
use Rattle.std.proofs.lemmas.List.Quantifiers.{position-Some}
use Rattle.std.proofs.lemmas.Map.Keys.{apart_from_distinct}
use Rattle.std.proofs.lemmas.Option.{get_or_from_slice_get, slice_get-get_or, slice_get_within}
use Rattle.std.proofs.lemmas.Slice.Eq.{bytes_eq-Decides}
use Rattle.std.proofs.lemmas.Bool.{cases_lt}
use Rattle.indexmap.specs.IndexSet.{insert_key}
use Rattle.std.proofs.Math.ListN.{get_or-map}
use Rattle.sess_dir.specs.Names.{octets_of, place_of, NoNameTwice}

-- a test passes for the first time at the same place, before a map and after
pub prefix_len-map : {X Y : Type 0} (p : Y → Bool) (f : X → Y) (xs : List X)
    → prefix_len p (map f xs) ≡ prefix_len (λ x. p (f x)) xs
prefix_len-map p f [] = refl
prefix_len-map p f (x ∷ xs) = ap (λ n. cond (p (f x)) (1 + n) 0) (prefix_len-map p f xs)

-- the same of the place
pub position-map : {X Y : Type 0} (p : Y → Bool) (f : X → Y) (xs : List X)
    → position p (map f xs) ≡ position (λ x. p (f x)) xs
position-map p f xs = rw (prefix_len-map (λ y. not (p y)) f xs, length-map xs f) refl

-- the place of a name by its stored form
pub place_of-octets_of : (stored : List (Vec ℕ)) (name : List ℕ)
    → position (λ x. bytes_eq name x.items) stored ≡ place_of (octets_of stored) name
place_of-octets_of stored name = sym (position-map (bytes_eq name) (λ x. x.items) stored)

-- without a place no element passes
pub fails_without_position : {X : Type 0} (p : X → Bool) (xs : List X) → position p xs ≡ None
    → All (λ x. p x ≡ false) xs
fails_without_position p xs none k d inside = elim (cases_lt (position_or_len p xs) (length xs)) [
  | inl within ↦ absurd (true≢false (ap is_some (rw (lt-ltb (position_or_len p xs) (length xs) within) at none)))
  | inr past ↦ fails_before_first p xs k d (omega arith)
]

-- at its place stands the name
pub slice_get-place_of : (names : List (List ℕ)) (name : List ℕ) (i : ℕ) → place_of names name ≡ Some i
    → slice_get names i ≡ Some name
slice_get-place_of names name i at =
    let found = position-Some (bytes_eq name) names i [] at in
    slice_get-get_or names i [] found.0 ∙ ap Some (sym ((bytes_eq-Decides name (get_or names i [])).0 found.1))

-- a name that has no place stands nowhere
pub absent-place_of : (names : List (List ℕ)) (name : List ℕ) → place_of names name ≡ None → Contains names name → ⊥
absent-place_of names name none (k, inside, is) =
    true≢false (sym ((bytes_eq-Decides name (get_or names k name)).1 (sym is)) ∙ fails_without_position (bytes_eq name) names none k name inside)

-- a new name that goes last has the place after the others
pub place_of-append : (names : List (List ℕ)) (name : List ℕ) → place_of names name ≡ None
    → place_of (names ++ name ∷ []) name ≡ Some (length names)
place_of-append names name none =
    let all = names ++ name ∷ [] in
    let one_more : length all ≡ length names + 1 = length-append names (name ∷ []) in
    let fails =
    λ (k : ℕ) (inside : k < length names). ap (bytes_eq name) (get_or_append_left names (name ∷ []) [] k inside)
    ∙ fails_without_position (bytes_eq name) names none k [] inside in
    let passes : bytes_eq name (get_or all (length names) []) ≡ true =
    (bytes_eq-Decides name _).1 (sym (get_or_push names name [] (length names) refl)) in
    let last : position_or_len (bytes_eq name) all ≡ length names =
    position_or_len_is (bytes_eq name) all (length names) [] (omega arith) fails (λ inside. passes) in
    let within : length names < length all = omega arith in
    rw (last, lt-ltb (length names) (length all) within) refl

-- a name keeps its place when another comes behind
pub place_of-append-known : (names : List (List ℕ)) (name other : List ℕ) (i : ℕ) → place_of names other ≡ Some i
    → place_of (names ++ name ∷ []) other ≡ Some i
place_of-append-known names name other i at =
    let all = names ++ name ∷ [] in
    let found = position-Some (bytes_eq other) names i [] at in
    let one_more : length all ≡ length names + 1 = length-append names (name ∷ []) in
    let inside : i < length names = found.0 in
    let same =
    λ (k : ℕ) (within : k < length names). ap (bytes_eq other) (get_or_append_left names (name ∷ []) [] k within) in
    let first : position_or_len (bytes_eq other) all ≡ i =
    position_or_len_is (bytes_eq other) all i [] (omega arith) (λ k before. same k (omega arith) ∙ found.2 k before)
    (λ _. same i inside ∙ found.1) in
    let within : i < length all = omega arith in
    rw (first, lt-ltb i (length all) within) refl

-- a new name's stored form goes last among the stored ones
pub octets_of-insert_key : (stored : List (Vec ℕ)) (copy : Vec ℕ) → place_of (octets_of stored) copy.items ≡ None
    → octets_of (insert_key (λ x y. bytes_eq x.items y.items) stored copy) ≡ octets_of stored ++ copy.items ∷ []
octets_of-insert_key stored copy none =
    let test : Vec ℕ → Bool = λ y. bytes_eq copy.items y.items in
    let new =
    list_any_none test stored (fails_without_position test stored (place_of-octets_of stored copy.items ∙ none)) in
    ap (λ there. octets_of (if there then stored else stored ++ copy ∷ [])) new ∙ map-append (λ y. y.items) stored (copy ∷ [])

-- of two places, the later has another name
apart : (stored : List (Vec ℕ)) (d : Vec ℕ) → IsDistinct (λ x y. bytes_eq x.items y.items) stored
    → (i j : ℕ) (name : List ℕ) → i < j
    → slice_get (octets_of stored) i ≡ Some name → slice_get (octets_of stored) j ≡ Some name → ⊥
apart stored d distinct i j name before first second =
    let inside : j < length stored =
    subst (λ n. j < n) (length-map stored (λ x. x.items)) (slice_get_within (octets_of stored) j name second) in
    let differ = apart_from_distinct (λ x y. bytes_eq x.items y.items) stored i j d distinct before inside in
    let one =
    sym (get_or-map (λ x. x.items) stored i d) ∙ get_or_from_slice_get (octets_of stored) i name d.items first in
    let other =
    sym (get_or-map (λ x. x.items) stored j d) ∙ get_or_from_slice_get (octets_of stored) j name d.items second in
    true≢false (sym ((bytes_eq-Decides (get_or stored i d).items (get_or stored j d).items).1 (one ∙ sym other)) ∙ differ)

-- stored names that differ are octets that differ
pub NoNameTwice-octets_of : (stored : List (Vec ℕ)) → IsDistinct (λ x y. bytes_eq x.items y.items) stored
    → NoNameTwice (octets_of stored)
NoNameTwice-octets_of [] distinct i j name first second = absurd (omega (arith, slice_get_within [] i name first))
NoNameTwice-octets_of (x ∷ stored) distinct i j name first second =
    elim (cases_lt i j) [
      | inl before ↦ absurd (apart (x ∷ stored) x distinct i j name before first second)
      | inr from ↦ elim (cases_lt j i) [
        | inl after ↦ absurd (apart (x ∷ stored) x distinct j i name after second first)
        | inr same ↦ omega arith
      ]
    ]
