-- Lists made of what stands at each number.
use Rattle.std.proofs.Common.{◌≡◌, ◌∙◌, ◌+◌, ℕ, List, [], ◌∷◌, ◌++◌, ap, append_assoc, map, sym, zero-add}
use Rattle.std.specs.List.{range_with_len}
use Rattle.std.proofs.lemmas.List.{map-append}
use Rattle.std.proofs.lemmas.List.FromFn.{map-range_with_len_more}

-- one more behind those of the numbers below
pub more-behind : {X Y : Type 0} (view : X → Y) (f : ℕ → Y) (old : List Y) (n : ℕ) (before now : List X) (x : X)
    → map view before ≡ old ++ map f (range_with_len 0 n) → view x ≡ f n → now ≡ before ++ x ∷ []
    → map view now ≡ old ++ map f (range_with_len 0 (n + 1))
more-behind view f old n before now x so is more =
    ap (map view) more ∙ map-append view before (x ∷ []) ∙ ap (λ ys. ys ++ view x ∷ []) so ∙ append_assoc old (map f (range_with_len 0 n)) (view x ∷ [])
    ∙ ap (λ y. old ++ (map f (range_with_len 0 n) ++ y ∷ [])) is ∙ ap (λ ys. old ++ ys) (sym (map-range_with_len_more f 0 n n (zero-add n)))
