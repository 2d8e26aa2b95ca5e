-- Numbers without the zeros at their end.
use Rattle.std.proofs.Common.{◌≡◌, ℕ, zero, suc, ◌<◌, false, List, [], ◌∷◌, length, take, drop, get_or, replicate, refl, ap, ◌∙◌, arith}
use Rattle.std.specs.Prelude.{◌==◌}
use Rattle.tab_kept.specs.Trimmed.{trimmed}

-- of zeros nothing is left
trimmed-zeros : (k : ℕ) → trimmed (replicate k 0) ≡ []
trimmed-zeros zero = refl
trimmed-zeros (suc k) = rw (trimmed-zeros k) refl

-- zeros alone
pub trimmed-none : (xs : List ℕ) (k : ℕ) → drop 0 xs ≡ replicate k 0 → trimmed xs ≡ take 0 xs
trimmed-none xs k zeros = ap trimmed zeros ∙ trimmed-zeros k

-- zeros behind a number that is none
pub trimmed-last : (xs : List ℕ) (m k : ℕ) → m < length xs → drop (suc m) xs ≡ replicate k 0 → (get_or xs m 0 == 0) ≡ false → trimmed xs ≡ take (suc m) xs
trimmed-last [] m k within zeros last = refl
trimmed-last (x ∷ xs) zero k within zeros last =
    let rest : trimmed xs ≡ [] = ap trimmed zeros ∙ trimmed-zeros k in
    rw (rest, last) refl
trimmed-last (x ∷ []) (suc m) k within zeros last = absurd (omega (arith, within))
trimmed-last (x ∷ y ∷ ys) (suc m) k within zeros last =
    let rest : trimmed (y ∷ ys) ≡ take (suc m) (y ∷ ys) = trimmed-last (y ∷ ys) m k (omega (arith, within)) zeros last in
    rw rest refl
