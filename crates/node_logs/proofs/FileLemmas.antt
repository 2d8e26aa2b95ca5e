-- Files that are written one after the other.
use Rattle.std.proofs.Common.{◌≡◌, ◌<◌, ◌+◌, ◌++◌, ◌∷◌, ◌∙◌, ℕ, List, [], Option, None, Some, ap, append-nil, append_assoc, drop, length, map, refl, reverse}
use Rattle.std.specs.Prelude.{get_or}
use Rattle.std.proofs.lemmas.List.{drop_more, map-append, reverse-append}
use Rattle.node_logs.specs.Files.{File, with_files}

-- none further
pub with_none : (written : Option (List File)) → with_files written [] ≡ written
with_none None = refl
with_none (Some files) = ap Some (append-nil files)

-- some, and then others
pub with_more : (written : Option (List File)) (some more : List File) → with_files (with_files written some) more ≡ with_files written (some ++ more)
with_more None some more = refl
with_more (Some files) some more = ap Some (append_assoc files some more)

-- those of the elements from a place on, and the one before
pub one_before : {X : Type 0} (f : X → File) (xs : List X) (i : ℕ) (x : X) → i < length xs
    → map f (reverse (drop i xs)) ≡ map f (reverse (drop (i + 1) xs)) ++ f (get_or xs i x) ∷ []
one_before {X = X} f xs i x within =
    let here : drop i xs ≡ get_or xs i x ∷ drop (i + 1) xs = drop_more xs i x within in
    ap (λ (ys : List X). map f (reverse ys)) here
    ∙ ap (map f) (reverse-append (get_or xs i x ∷ []) (drop (i + 1) xs))
    ∙ map-append f (reverse (drop (i + 1) xs)) (get_or xs i x ∷ [])
