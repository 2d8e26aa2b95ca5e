-- Callbacks that are made each have the laws of all roles.
use Rattle.std.proofs.Common.{◌≡◌, List, [], ◌∷◌, subst, sym}
use Rattle.std.specs.Prelude.{map}
use Rattle.std.specs.List.{AllByRecursion as Each}

-- each has the laws, where the laws of each are these
each_has : {R X : Type 0} (book : R → X) (rs : List R) (x : X) → Each (λ y. y ≡ x) (map book rs) → Each (λ r. book r ≡ x) rs
each_has book [] x each = tt
each_has book (r ∷ rs) x each = (each.0, each_has book rs x each.1)

-- and so where these are borrowed
pub laws_there : {R X : Type 0} (book : R → X) (rs rs' : List R) (x : X) → rs' ≡ rs → Each (λ y. y ≡ x) (map book rs) → Each (λ r. book r ≡ x) rs'
laws_there {R} book rs rs' x same each = subst (λ (qs : List R). Each (λ (r : R). book r ≡ x) qs) (sym same) (each_has book rs x each)
