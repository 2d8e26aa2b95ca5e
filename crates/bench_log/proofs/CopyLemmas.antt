-- A copy of a list with one more element.
use Rattle.std.proofs.Common.{◌≡◌, ℕ, ◌+◌, ◌<◌, List, [], ◌∷◌, ◌++◌, length, get_or, take, ap, sym, ◌∙◌}
use Rattle.std.proofs.lemmas.List.{take_more}

-- the element at the next place is added
pub copied-more : {X : Type 0} → (all copy new : List X) (i : ℕ) (x d : X) → i < length all → copy ≡ take i all → x ≡ get_or all i d → new ≡ copy ++ x ∷ [] → new ≡ take (i + 1) all
copied-more {X = X} all copy new i x d within so_far here more =
    more ∙ ap (λ (ys : List X). ys ++ x ∷ []) so_far ∙ ap (λ (y : X). take i all ++ y ∷ []) here ∙ sym (take_more all i d within)
