use Rattle.std.proofs.Common.{◌≡◌, ℕ, ◌<◌, suc, zero, List, [], ◌∷◌, Some, length, map, take, get_or, arith, refl, ap, sym, ◌∙◌}
use Rattle.std.specs.List.{slice_get}
use Rattle.std.proofs.lemmas.List.{take-map}
use Rattle.base_list.specs.declared.named.Named.{Named}

-- where two lists have the same laws, the entry at a place has the law that stands there in the other list
pub kept-at : {S L : Type 0} (law : S → L) (kept : List S) (entries : List (Named L)) (i : ℕ) (d : S) → map law kept ≡ map (λ e. e.value) entries → i < length entries → (e : Named L) × ((slice_get entries i ≡ Some e) × (e.value ≡ law (get_or kept i d)))
kept-at law kept [] i d k h = absurd (omega arith)
kept-at law [] (e ∷ es) i d k h = cc
kept-at law (s ∷ ss) (e ∷ es) zero d k h = (e, (refl, cc))
kept-at law (s ∷ ss) (e ∷ es) (suc i) d k h =
    let t : map law ss ≡ map (λ e. e.value) es = cc in
    kept-at law ss es i d t (omega arith)

-- so have their fronts
pub kept-take : {S L : Type 0} (law : S → L) (n : ℕ) (kept : List S) (entries : List (Named L)) → map law kept ≡ map (λ e. e.value) entries → map law (take n kept) ≡ map (λ e. e.value) (take n entries)
kept-take law n kept entries k = sym (take-map law n kept) ∙ (ap (take n) k ∙ take-map (λ e. e.value) n entries)
