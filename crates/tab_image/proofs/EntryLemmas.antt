use Rattle.std.proofs.Common.{◌≡◌, ℕ, ◌+◌, ◌*◌, ◌<◌, ◌≤◌, suc, zero, Bool, true, false, cond, nat_lt, List, [], ◌∷◌, Option, Some, None, length, map, get_or, arith, refl, sym, ap, ◌∙◌, inl, inr}
use Rattle.std.specs.Prelude.{◌==◌, position, option_and_then}
use Rattle.std.specs.List.{position_or_len}
use Rattle.std.proofs.lemmas.Bool.{cases_lt}
use Rattle.std.proofs.lemmas.Bool.Decides.{nat_tests}
use Rattle.std.proofs.lemmas.List.{get_or_default, get_or_past}
use Rattle.std.proofs.lemmas.List.Quantifiers.{position-Some}
use Rattle.base_list.specs.Named.{place_of, HasOwnNames}
use Rattle.tab_law.specs.Books.{Laws}
use Rattle.tab_step.specs.Moves.{is_kind_of}
use Rattle.tab_step.proofs.BindLemmas.{as-many}
use Rattle.tab_step.proofs.MoveLemmas.{is_kind_of-place}
use Rattle.tab_asm.specs.Images.{Image}
use Rattle.tab_image.specs.RunBy.{number_of, entry_of}

-- the place of a name at its number
pub place-at : (f : List ℕ → Option ℕ) (names : List (List ℕ)) (places : List ℕ) (number : ℕ) → map f names ≡ map Some places → number < length names → f (get_or names number []) ≡ Some (get_or places number 0)
place-at f [] places number same below = absurd (omega arith)
place-at f (name ∷ names) [] number same below = cc
place-at f (name ∷ names) (place ∷ places) zero same below = cc
place-at f (name ∷ names) (place ∷ places) (suc number) same below =
    let rest : map f names ≡ map Some places = cc in
    place-at f names places number rest (omega arith)

-- and as code reads it
pub read-place : (f : List ℕ → Option ℕ) (names : List (List ℕ)) (places all : List ℕ) (number place : ℕ) → map f names ≡ map Some places → all ≡ places → place ≡ get_or all number place → number < length names → f (get_or names number []) ≡ Some place
read-place f names places all number place same whole read below =
    let there = place-at f names places number same below in
    let inside : number < length places = omega (arith, below, as-many f names places same) in
    let is : place ≡ get_or places number place = rw whole at read in
    there ∙ ap (λ (p : ℕ). Some p) (get_or_default places number 0 place inside ∙ sym is)

-- the first kind of a name has the first place of that kind
first-kind : (laws : Laws) (kind : ℕ) (names : List (List ℕ)) (places : List ℕ) → HasOwnNames laws.kinds → map (λ name. place_of name laws.kinds) names ≡ map Some places → position_or_len (is_kind_of laws kind) names ≡ position_or_len (λ place. place == kind) places
first-kind laws kind [] [] own same = refl
first-kind laws kind [] (place ∷ places) own same = cc
first-kind laws kind (name ∷ names) [] own same = cc
first-kind laws kind (name ∷ names) (place ∷ places) own same =
    let at : place_of name laws.kinds ≡ Some place = cc in
    let rest : map (λ other. place_of other laws.kinds) names ≡ map Some places = cc in
    rw (is_kind_of-place laws kind place name own at, first-kind laws kind names places own rest) refl

-- the number of a kind by the places of names
pub number-is : (laws : Laws) (image : Image) (kind : ℕ) (places : List ℕ) → HasOwnNames laws.kinds → map (λ name. place_of name laws.kinds) image.kinds ≡ map Some places → number_of laws image kind ≡ position (λ place. place == kind) places
number-is laws image kind places own same =
    rw (first-kind laws kind image.kinds places own same, as-many (λ name. place_of name laws.kinds) image.kinds places same) refl

-- a state that isn't there has no entry
pub entry-past : (laws : Laws) (image : Image) (state kind : ℕ) → length image.states ≤ state → entry_of laws image state kind ≡ None
entry-past laws image state kind past =
    let test : nat_lt state (length image.states) ≡ false = grind (arith, nat_tests) in
    rw test refl

-- nor has a kind that isn't there
pub entry-none : (laws : Laws) (image : Image) (state kind : ℕ) → state < length image.states → number_of laws image kind ≡ None → entry_of laws image state kind ≡ None
entry-none laws image state kind within none =
    let test : nat_lt state (length image.states) ≡ true = grind (arith, nat_tests) in
    rw (test, none) refl

-- the entry of a state and a kind that are there
pub entry-some : (laws : Laws) (image : Image) (state kind number : ℕ) → state < length image.states → number_of laws image kind ≡ Some number → entry_of laws image state kind ≡ get_or image.entries (state * length image.kinds + number) None
entry-some laws image state kind number within some =
    let test : nat_lt state (length image.states) ≡ true = grind (arith, nat_tests) in
    rw (test, some) refl

-- a kind that is there has a number
pub number-in : (laws : Laws) (image : Image) (kind number : ℕ) → number_of laws image kind ≡ Some number → (number < length image.kinds) × (is_kind_of laws kind (get_or image.kinds number []) ≡ true)
number-in laws image kind number some =
    let found = position-Some (is_kind_of laws kind) image.kinds number [] some in
    (found.0, found.1)

-- where there is an entry, it is one of the image's
pub entry-there : (laws : Laws) (image : Image) (state kind begin : ℕ) → entry_of laws image state kind ≡ Some begin → (number : ℕ) × (number < length image.entries) × (get_or image.entries number None ≡ Some begin)
entry-there laws image state kind begin is = by_number (nat_lt state (length image.states)) (number_of laws image kind) is
  where
    at : (number : ℕ) → get_or image.entries number None ≡ Some begin → (other : ℕ) × (other < length image.entries) × (get_or image.entries other None ≡ Some begin)
    at number there = elim (cases_lt number (length image.entries)) [
      | inl inside ↦ (number, inside, there)
      | inr past ↦ let none = get_or_past image.entries number None past in cc
    ]

    by_number : (test : Bool) (number : Option ℕ) → cond test (option_and_then (λ n. get_or image.entries (state * length image.kinds + n) None) number) None ≡ Some begin → (other : ℕ) × (other < length image.entries) × (get_or image.entries other None ≡ Some begin)
    by_number false number there = cc
    by_number true None there = cc
    by_number true (Some number) there = at (state * length image.kinds + number) there
