-- Callbacks that are made each have the laws of all roles; steps, and more behind them.
use Rattle.std.proofs.Common.{◌≡◌, ℕ, List, [], ◌∷◌, refl, subst, suc, sym, zero}
use Rattle.std.specs.Prelude.{map, replicate}
use Rattle.std.specs.List.{AllByRecursion as Each}
use Rattle.bench_node.proofs.GoingLemmas.{goes_on, goes_refl}

-- so many of the same are each the same
pub each_same : {X : Type 0} (x : X) (n : ℕ) → Each (λ y. y ≡ x) (replicate n x)
each_same x zero = tt
each_same x (suc n) = (refl, each_same x n)

-- each has the laws, where the laws of each are these
pub each_has : {R X : Type 0} (book : R → X) (rs : List R) (x : X) → Each (λ y. y ≡ x) (map book rs) → Each (λ r. book r ≡ x) rs
each_has book [] x each = tt
each_has book (r ∷ rs) x each = (each.0, each_has book rs x each.1)

-- and so where these are borrowed
pub laws_there : {R X : Type 0} (book : R → X) (rs rs' : List R) (x : X) → rs' ≡ rs → Each (λ y. y ≡ x) (map book rs) → Each (λ r. book r ≡ x) rs'
laws_there {R} book rs rs' x same each = subst (λ (qs : List R). Each (λ (r : R). book r ≡ x) qs) (sym same) (each_has book rs x each)

pub ruleset same_laws = (each_same, each_has, goes_refl, goes_on)
