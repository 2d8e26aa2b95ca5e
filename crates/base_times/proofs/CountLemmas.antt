-- Zeros at all places.
use Rattle.std.proofs.Common.{◌≡◌, ◌∙◌, ◌<◌, ◌++◌, ◌∷◌, ℕ, List, [], ap, get_or, length, refl, suc, sym, take, arith}
use Rattle.std.proofs.lemmas.List.{length-replicate}
use Rattle.std.specs.Prelude.{replicate}

pub all_zeros : (xs : List ℕ) → ((k : ℕ) → k < length xs → get_or xs k 0 ≡ 0) → xs ≡ replicate (length xs) 0
all_zeros [] zeros = refl
all_zeros (x ∷ xs) zeros = cc (zeros 0 (omega arith), all_zeros xs (λ k within. zeros (suc k) (omega arith)))

-- the front, as long as a list, of what begins with it
front : (xs ys : List ℕ) → take (length xs) (xs ++ ys) ≡ xs
front [] ys = refl
front (x ∷ xs) ys = ap (λ (zs : List ℕ). x ∷ zs) (front xs ys)

-- the front that was cleared
pub cleared : (n m k : ℕ) (xs ys : List ℕ) → xs ≡ replicate m 0 → m ≡ n → n ≡ k → take n (xs ++ ys) ≡ replicate k 0
cleared n m k xs ys zeros same is =
    let long : length xs ≡ n = ap length zeros ∙ length-replicate {A = ℕ} m 0 ∙ same in
    rw (sym long) (front xs ys) ∙ zeros ∙ ap (λ (j : ℕ). replicate j 0) (same ∙ is)
