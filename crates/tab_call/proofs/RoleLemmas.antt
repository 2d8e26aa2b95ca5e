-- Callbacks taken one by one, beside the laws that they keep.
use Rattle.std.proofs.Common.{◌≡◌, ℕ, ◌<◌, suc, zero, List, [], ◌∷◌, length, map, get_or, arith}

-- lists that a function each makes the same are made the same at each place
pub map-same-at : {A B L : Type 0} (f : A → L) (h : B → L) (xs : List A) (ys : List B) (i : ℕ) (d : A) (e : B) → i < length xs → i < length ys → map f xs ≡ map h ys → f (get_or xs i d) ≡ h (get_or ys i e)
map-same-at f h [] ys i d e m n s = absurd (omega arith)
map-same-at f h (x ∷ xs) [] i d e m n s = absurd (omega arith)
map-same-at f h (x ∷ xs) (y ∷ ys) zero d e m n s = cc
map-same-at f h (x ∷ xs) (y ∷ ys) (suc i) d e m n s =
    let rest : map f xs ≡ map h ys = cc in
    map-same-at f h xs ys i d e (omega arith) (omega arith) rest
