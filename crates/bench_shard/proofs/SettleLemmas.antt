-- A state that is put at a place, and put back.
use Rattle.std.proofs.Common.{◌≡◌, ℕ, zero, suc, List, [], ◌∷◌, get_or, set, refl, ap, ◌∙◌}
use Rattle.std.proofs.lemmas.List.{set-get_or}

set-set : {X : Type 0} → (xs : List X) (i : ℕ) (a b : X) → set (set xs i a) i b ≡ set xs i b
set-set [] i a b = refl
set-set (x ∷ xs) zero a b = refl
set-set {X = X} (x ∷ xs) (suc i) a b = ap (λ (ys : List X). x ∷ ys) (set-set xs i a b)

pub set-back : {X : Type 0} → (xs : List X) (i : ℕ) (new old d : X) → old ≡ get_or xs i d → set (set xs i new) i old ≡ xs
set-back xs i new old d was = set-set xs i new old ∙ ap (set xs i) was ∙ set-get_or xs i d
