-- The texts of so many things, and of one more.
use Rattle.std.proofs.Common.{◌≡◌, ◌+◌, ◌++◌, ◌∷◌, ◌∙◌, ℕ, List, [], ap, append-nil, append_assoc, refl, sym}
use Rattle.std.specs.Prelude.{flat_map}
use Rattle.std.specs.List.{range_with_len}
use Rattle.std.proofs.lemmas.Grind.{flat_map-append}
use Rattle.std.proofs.lemmas.List.{map-id}
use Rattle.std.proofs.lemmas.List.FromFn.{map-range_with_len_more}

range_more : (a n : ℕ) → range_with_len a (n + 1) ≡ range_with_len a n ++ (a + n) ∷ []
range_more a n =
    sym (map-id (range_with_len a (n + 1))) ∙ map-range_with_len_more (λ k. k) a n (a + n) refl
    ∙ ap (λ (ks : List ℕ). ks ++ (a + n) ∷ []) (map-id (range_with_len a n))

pub texts_more : (f : ℕ → List ℕ) (from n : ℕ)
    → flat_map f (range_with_len from (n + 1)) ≡ flat_map f (range_with_len from n) ++ f (from + n)
texts_more f from n =
    ap (flat_map f) (range_more from n) ∙ flat_map-append f (range_with_len from n) ((from + n) ∷ [])
    ∙ ap (λ (text : List ℕ). flat_map f (range_with_len from n) ++ text) (append-nil (f (from + n)))

-- nothing was put behind a text yet; one more was put
pub none_put : (old text : List ℕ) → text ≡ [] → old ≡ old ++ text
none_put old text none = sym (ap (λ (t : List ℕ). old ++ t) none ∙ append-nil old)

pub one_put : (old now new before one after : List ℕ) → new ≡ now ++ one → now ≡ old ++ before → after ≡ before ++ one → new ≡ old ++ after
one_put old now new before one after put is more =
    put ∙ ap (λ (front : List ℕ). front ++ one) is ∙ append_assoc old before one ∙ ap (λ (text : List ℕ). old ++ text) (sym more)
