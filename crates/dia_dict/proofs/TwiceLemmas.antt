-- A definition whose code and vendor, and whose name, are free leaves none twice.
use Rattle.std.proofs.Common.{◌≡◌, ℕ, Bool, true, false, ◌||◌, if◌then◌else◌, List, [], ◌∷◌, ◌++◌, Option, None, Some, refl}
use Rattle.std.specs.Prelude.{is_some}
use Rattle.std.proofs.lemmas.List.Elements.{All-nil, All-push}
use Rattle.dia_dict.specs.declared.definition.Definition.{Definition}
use Rattle.dia_dict.specs.Dictionary.{is_of, is_named, definition_of, definition_named, is_taken, clashes, NoneTwice}

either_false : (a b : Bool) → (a || b) ≡ false → (a ≡ false) × (b ≡ false)
either_false false b e = (refl, e)
either_false true b e = absurd cc

none_is : {X : Type 0} (o : Option X) → is_some o ≡ false → o ≡ None
none_is None e = refl
none_is (Some x) e = absurd cc

-- where a definition is free, its code and vendor have none
pub code_free : (definitions : List Definition) (code : ℕ) (vendor : Option ℕ) (name : List ℕ) → is_taken definitions code vendor name ≡ false → definition_of definitions code vendor ≡ None
code_free definitions code vendor name free = none_is (definition_of definitions code vendor) (either_false _ _ free).0

pub name_free : (definitions : List Definition) (code : ℕ) (vendor : Option ℕ) (name : List ℕ) → is_taken definitions code vendor name ≡ false → definition_named definitions name ≡ None
name_free definitions code vendor name free = none_is (definition_named definitions name) (either_false (is_some (definition_of definitions code vendor)) (is_some (definition_named definitions name)) free).1

passed : (test : Bool) (d : Definition) (rest : Option Definition) → (if test then Some d else rest) ≡ None → (test ≡ false) × (rest ≡ None)
passed false d rest e = (refl, e)
passed true d rest e = absurd cc

-- one more definition
push : (definitions : List Definition) (d : Definition) → definition_of definitions d.code d.vendor ≡ None → definition_named definitions d.name ≡ None → NoneTwice definitions → NoneTwice (definitions ++ d ∷ [])
push [] d code name once = (All-nil (λ other. clashes d other ≡ false), tt)
push (x ∷ definitions) d code name once =
    let c = passed (is_of d.code d.vendor x) x (definition_of definitions d.code d.vendor) code in
    let n = passed (is_named d.name x) x (definition_named definitions d.name) name in
    let apart : clashes x d ≡ false = rw (c.0, n.0) refl in
    (All-push (λ other. clashes x other ≡ false) definitions d once.0 apart, push definitions d c.1 n.1 once.1)

pub NoneTwice-push : (definitions : List Definition) (d : Definition) → is_taken definitions d.code d.vendor d.name ≡ false → NoneTwice definitions → NoneTwice (definitions ++ d ∷ [])
NoneTwice-push definitions d free once = push definitions d (code_free definitions d.code d.vendor d.name free) (name_free definitions d.code d.vendor d.name free) once
