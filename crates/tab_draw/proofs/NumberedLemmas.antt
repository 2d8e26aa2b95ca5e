use Rattle.std.proofs.Common.{◌≡◌, ℕ, ◌+◌, ◌<◌, suc, zero, List, [], ◌∷◌, ◌++◌, length, take, get_or, arith, refl, sym, ap, ◌∙◌}
use Rattle.std.specs.List.{enumerate_from, flat_map}
use Rattle.std.proofs.lemmas.List.{flat_map_more}

-- one more of a list, each with its number
numbered-take : {X : Type 0} (xs : List X) (from i : ℕ) (x : X) → i < length xs → get_or xs i x ≡ x → enumerate_from from (take (suc i) xs) ≡ enumerate_from from (take i xs) ++ (from + i, x) ∷ []
numbered-take {X = X} [] from i x below is = absurd (omega arith)
numbered-take {X = X} (y ∷ xs) from zero x below is =
    let same : from + 0 ≡ from = omega arith in
    rw (is, same) refl
numbered-take {X = X} (y ∷ xs) from (suc i) x below is =
    let next : from + 1 + i ≡ from + suc i = omega arith in
    ap (λ (rest : List (ℕ × X)). (from, y) ∷ rest) (numbered-take xs (from + 1) i x (omega arith) is ∙ rw next refl)

-- what is put of the first of a list, and of one more
pub numbered-more : {X : Type 0} (f : ℕ × X → List ℕ) (xs all : List X) (i : ℕ) (x : X) (old now new : List ℕ) → all ≡ xs → i < length all → x ≡ get_or all i x → now ≡ old ++ flat_map f (enumerate_from 0 (take i xs)) → new ≡ now ++ f (i, x) → new ≡ old ++ flat_map f (enumerate_from 0 (take (i + 1) xs))
numbered-more {X = X} f xs all i x old now new same below is before put =
    let there : get_or xs i x ≡ x = rw (← same) (sym is) in
    let within : i < length xs = rw (← same) below in
    let one : i + 1 ≡ suc i = omega arith in
    let at : 0 + i ≡ i = omega arith in
    let more : enumerate_from 0 (take (i + 1) xs) ≡ enumerate_from 0 (take i xs) ++ (i, x) ∷ [] = rw one (numbered-take xs 0 i x within there ∙ rw at refl) in
    put ∙ ap (λ (b : List ℕ). b ++ f (i, x)) before ∙ flat_map_more f old (enumerate_from 0 (take i xs)) (i, x)
    ∙ ap (λ (ys : List (ℕ × X)). old ++ flat_map f ys) (sym more)
