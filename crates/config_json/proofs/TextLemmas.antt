-- Texts behind texts.
use Rattle.std.proofs.Common.{◌≡◌, ◌<◌, ◌+◌, ◌++◌, ◌∷◌, ◌∙◌, ℕ, List, [], Result, Ok, Err, OnOk}
use Rattle.std.proofs.Common.{ap, append-nil, append_assoc, flat_map, get_or, length, sym, take}
use Rattle.std.specs.Prelude.{if◌then◌else◌}
use Rattle.std.specs.Result.{is_ok}
use Rattle.std.proofs.lemmas.Grind.{flat_map-append}
use Rattle.std.proofs.lemmas.List.{take_more}

-- where memory sufficed, a text stands behind what was put
pub put_ok : {T E : Type 0} (r : Result T E) (p q x z : List ℕ) → q ≡ (if is_ok r then p ++ x else p) → p ++ x ≡ z → OnOk r (q ≡ z)
put_ok (Ok done) p q x z put same = put ∙ same
put_ok (Err e) p q x z put same = tt

-- the text of one item more
pub item_more : {X : Type 0} (f : X → List ℕ) (o p q : List ℕ) (xs : List X) (i : ℕ) (x : X) → i < length xs → x ≡ get_or xs i x
    → p ≡ o ++ flat_map f (take i xs) → q ≡ p ++ f x → q ≡ o ++ flat_map f (take (i + 1) xs)
item_more f o p q xs i x within is first second =
    let longer : flat_map f (take (i + 1) xs) ≡ flat_map f (take i xs) ++ f x =
    ap (flat_map f) (take_more xs i x within ∙ ap (λ y. take i xs ++ y ∷ []) (sym is))
    ∙ flat_map-append f (take i xs) (x ∷ []) ∙ ap (λ ys. flat_map f (take i xs) ++ ys) (append-nil (f x))
    in second ∙ ap (λ (z : List ℕ). z ++ f x) first ∙ append_assoc o (flat_map f (take i xs)) (f x) ∙ ap (λ ys. o ++ ys) (sym longer)
