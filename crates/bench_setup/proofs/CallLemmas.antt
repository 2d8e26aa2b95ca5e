-- Registries that all have the same laws.
use Rattle.std.proofs.Common.{◌≡◌, ◌++◌, ◌∷◌, ◌∙◌, ℕ, List, [], ap, length, refl, suc, zero}
use Rattle.std.specs.Prelude.{map, replicate}
use Rattle.std.specs.List.{AllByRecursion as Each}
use Rattle.tab_law.specs.Books.{Laws}

-- one more has them too
pub each_more : {R : Type 0} (P : R → Type 0) (rs : List R) (r : R) → Each P rs → P r → Each P (rs ++ r ∷ [])
each_more P [] r none is = (is, tt)
each_more P (x ∷ xs) r all is = (all.0, each_more P xs r all.1 is)

-- so many laws
pub laws_of_all : {R : Type 0} (rs : List R) (book : R → Laws) (count : ℕ) (laws : Laws) → Each (λ r. book r ≡ laws) rs → length rs ≡ count
    → map book rs ≡ replicate count laws
laws_of_all [] book zero laws all same = refl
laws_of_all [] book (suc count) laws all same = absurd cc
laws_of_all (r ∷ rs) book zero laws all same = absurd cc
laws_of_all (r ∷ rs) book (suc count) laws all same =
    let rest : map book rs ≡ replicate count laws = laws_of_all rs book count laws all.1 cc in
    let first : book r ≡ laws = all.0 in
    ap (λ (l : Laws). l ∷ map book rs) first ∙ ap (λ (ls : List Laws). laws ∷ ls) rest
