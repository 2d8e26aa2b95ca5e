-- Lists that are made by numbers.
use Rattle.std.proofs.Common.{◌≡◌, ◌+◌, ℕ, List, [], ◌∷◌, ◌++◌, ap, arith, sym, ◌∙◌}
use Rattle.std.specs.Prelude.{map}
use Rattle.std.specs.List.{range_with_len}
use Rattle.std.proofs.lemmas.List.FromFn.{map-range_with_len_more}

-- one more of a list that is made by numbers
pub more-by : {X : Type 0} (f : ℕ → X) (n : ℕ) (xs new : List X) (x : X) → xs ≡ map f (range_with_len 0 n) → x ≡ f n → new ≡ xs ++ x ∷ [] → new ≡ map f (range_with_len 0 (n + 1))
more-by {X} f n xs new x so_far is more =
    more ∙ ap (λ (ys : List X). ys ++ x ∷ []) so_far ∙ ap (λ (y : X). map f (range_with_len 0 n) ++ y ∷ []) is ∙ sym (map-range_with_len_more f 0 n n (omega arith))
