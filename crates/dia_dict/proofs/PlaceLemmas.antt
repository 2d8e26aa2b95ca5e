-- A definition that is found at a place is the first of its code and vendor, since no other has them.
use Rattle.std.proofs.Common.{◌≡◌, ℕ, zero, suc, Bool, true, false, ◌&&◌, ◌||◌, nat_eq, List, [], ◌∷◌, Option, Some, All, refl}
use Rattle.std.specs.Prelude.{slice_get, unwrap_or}
use Rattle.std.proofs.lemmas.Bool.{eqb-true}
use Rattle.std.proofs.lemmas.List.Elements.{All-head, All-tail}
use Rattle.dia_dict.specs.declared.definition.Definition.{Definition}
use Rattle.dia_dict.specs.Dictionary.{is_of, is_named, clashes, definition_of, NoneTwice}

both_true : (a b : Bool) → (a && b) ≡ true → (a ≡ true) × (b ≡ true)
both_true true b e = (refl, e)
both_true false b e = absurd cc

first_false : (a b : Bool) → (a || b) ≡ false → a ≡ false
first_false false b e = refl
first_false true b e = absurd cc

-- a definition that does not clash with one of this code and vendor is not of them
apart : (x d : Definition) (code : ℕ) (vendor : Option ℕ) → is_of code vendor d ≡ true → clashes x d ≡ false → is_of code vendor x ≡ false
apart x d code vendor e free =
    let same = both_true (nat_eq code d.code) (nat_eq (unwrap_or vendor 0) (unwrap_or d.vendor 0)) e in
    let c : code ≡ d.code = eqb-true _ _ same.0 in
    let v : unwrap_or vendor 0 ≡ unwrap_or d.vendor 0 = eqb-true _ _ same.1 in
    rw (c, v) (first_false (is_of d.code d.vendor x) (is_named d.name x) free)

free_at : (x : Definition) (definitions : List Definition) (place : ℕ) (d : Definition) → All (λ other. clashes x other ≡ false) definitions → slice_get definitions place ≡ Some d → clashes x d ≡ false
free_at x [] place d free e = absurd cc
free_at x (y ∷ definitions) zero d free e = let same : y ≡ d = cc in rw (← same) (All-head (λ other. clashes x other ≡ false) y definitions free)
free_at x (y ∷ definitions) (suc place) d free e = free_at x definitions place d (All-tail (λ other. clashes x other ≡ false) y definitions free) e

pub found_at : (definitions : List Definition) (place : ℕ) (code : ℕ) (vendor : Option ℕ) (d : Definition) → NoneTwice definitions → slice_get definitions place ≡ Some d → is_of code vendor d ≡ true → definition_of definitions code vendor ≡ Some d
found_at [] place code vendor d once e is = absurd cc
found_at (x ∷ definitions) zero code vendor d once e is = let same : x ≡ d = cc in rw (same, is) refl
found_at (x ∷ definitions) (suc place) code vendor d once e is =
    let other : is_of code vendor x ≡ false = apart x d code vendor is (free_at x definitions place d once.0 e) in
    rw other (found_at definitions place code vendor d once.1 e is)
