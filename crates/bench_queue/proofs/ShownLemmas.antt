-- Items that are shown one by one.
use Rattle.std.proofs.Common.{◌≡◌, ℕ, ◌+◌, ◌<◌, List, [], ◌∷◌, ◌++◌, length, get_or, take, ap, sym, ◌∙◌}
use Rattle.std.proofs.lemmas.List.{take_more}

-- the item at the next place is shown
pub shown-more : {X : Type 0} → (all shown new : List X) (i : ℕ) (x d : X) → i < length all → shown ≡ take i all → x ≡ get_or all i d → new ≡ shown ++ x ∷ [] → new ≡ take (i + 1) all
shown-more {X = X} all shown new i x d within so_far here more =
    more ∙ ap (λ (ys : List X). ys ++ x ∷ []) so_far ∙ ap (λ (y : X). take i all ++ y ∷ []) here ∙ sym (take_more all i d within)
