-- The texts of numbers with their places, one behind the other.
use Rattle.std.proofs.Common.{◌≡◌, ◌∙◌, ◌<◌, ◌+◌, ◌++◌, ◌∷◌, ℕ, List, [], ap, append_assoc, get_or, length, suc, sym, take, zero, arith}
use Rattle.std.proofs.lemmas.List.{append-nil}
use Rattle.live_stats.specs.Lines.{numbered}

-- one number more
pub numbered_more : (text : ℕ → ℕ → List ℕ) (place : ℕ) (xs : List ℕ) (i : ℕ) → i < length xs
    → numbered text place (take (i + 1) xs) ≡ numbered text place (take i xs) ++ text (place + i) (get_or xs i 0)
numbered_more text place [] i within = absurd (omega arith)
numbered_more text place (x ∷ xs) zero within =
    let first : place + 0 ≡ place = omega arith in
    rw first (append-nil (text place x))
numbered_more text place (x ∷ xs) (suc i) within =
    let one : suc i + 1 ≡ suc (i + 1) = omega arith in
    let next : place + suc i ≡ place + 1 + i = omega arith in
    let rest : numbered text (place + 1) (take (i + 1) xs) ≡ numbered text (place + 1) (take i xs) ++ text (place + 1 + i) (get_or xs i 0)
    = numbered_more text (place + 1) xs i (omega arith) in
    rw (one, next) (ap (λ (ys : List ℕ). text place x ++ ys) rest ∙ sym (append_assoc (text place x) (numbered text (place + 1) (take i xs)) (text (place + 1 + i) (get_or xs i 0))))

-- from the first place on
pub numbered_next : (text : ℕ → ℕ → List ℕ) (xs : List ℕ) (i : ℕ) → i < length xs
    → numbered text 0 (take (i + 1) xs) ≡ numbered text 0 (take i xs) ++ text i (get_or xs i 0)
numbered_next text xs i within = let same : 0 + i ≡ i = omega arith in rw same at (numbered_more text 0 xs i within)
