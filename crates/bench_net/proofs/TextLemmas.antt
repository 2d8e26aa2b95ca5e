-- Texts that grow, and parts of them.
use Rattle.std.proofs.Common.{◌≡◌, ◌≤◌, ◌<◌, ℕ, ◌+◌, List, [], ◌∷◌, ◌++◌, Option, None, Some, length, drop, take, refl, sym, ap, ◌∙◌, append_assoc, inl, inr, arith}
use Rattle.std.proofs.lemmas.List.{append-nil, drop_all, length-drop, drop-append-le, drop-drop, take-append-drop, take-take}
use Rattle.std.proofs.lemmas.Bool.Decides.{leb_tells}
use Rattle.std.proofs.Math.Seq.{drop-append_seam}
use Rattle.bench_net.specs.Texts.{Copies, EndsAt, Grows, StandsAt}

pub Grows-refl : (a : Option (List ℕ)) → Grows a a
Grows-refl None = tt
Grows-refl (Some text) = ([], sym (append-nil text))

pub Grows-trans : (a b c : Option (List ℕ)) → Grows a b → Grows b c → Grows a c
Grows-trans None None None p q = tt
Grows-trans None None (Some z) p q = q
Grows-trans None (Some y) c p q = absurd p
Grows-trans (Some x) None c p q = absurd p
Grows-trans (Some x) (Some y) None p q = absurd q
Grows-trans (Some x) (Some y) (Some z) p q =
    (p.0 ++ q.0, q.1 ∙ ap (λ (l : List ℕ). l ++ q.0) p.1 ∙ append_assoc x p.0 q.0)

-- nothing stands anywhere
pub StandsAt-nil : (text : Option (List ℕ)) (from : ℕ) → StandsAt text from []
StandsAt-nil None from = tt
StandsAt-nil (Some text) from = (drop from text, refl)

-- behind a front of a list comes the rest
rest_behind : (all front rest : List ℕ) → all ≡ front ++ rest → drop (length front) all ≡ rest
rest_behind all front rest e = ap (drop (length front)) e ∙ drop-append_seam front rest

-- what stands behind what stands there
pub StandsAt-join : (text : Option (List ℕ)) (from : ℕ) (a b : List ℕ) → StandsAt text from a → StandsAt text (from + length a) b → StandsAt text from (a ++ b)
StandsAt-join None from a b p q = tt
StandsAt-join (Some text) from a b p q =
    let behind : p.0 ≡ b ++ q.0 =
    sym (rest_behind (drop from text) a p.0 p.1) ∙ drop-drop (length a) from text ∙ q.1 in
    (q.0, p.1 ∙ ap (λ (l : List ℕ). a ++ l) behind ∙ sym (append_assoc a b q.0))

-- the front of nothing is nothing
front_of_nil : (a rest : List ℕ) → [] ≡ a ++ rest → a ≡ []
front_of_nil [] rest e = refl
front_of_nil (x ∷ a) rest e = cc

-- what stands in a text stands in it when it has grown
pub StandsAt-grown : (text text' : Option (List ℕ)) (from : ℕ) (a : List ℕ) → Grows text text' → StandsAt text from a → StandsAt text' from a
StandsAt-grown None None from a g p = tt
StandsAt-grown None (Some text') from a g p = absurd g
StandsAt-grown (Some text) None from a g p = absurd g
StandsAt-grown (Some text) (Some text') from a g p =
    elim (leb_tells from (length text)) [
      | inl within ↦ (
        p.0 ++ g.0,
        ap (drop from) g.1 ∙ drop-append-le from text g.0 within.1 ∙ ap (λ (l : List ℕ). l ++ g.0) p.1 ∙ append_assoc a p.0 g.0,
      )
      | inr past ↦
          let none : drop from text ≡ [] = drop_all from text (omega (arith, past.1)) in
          let empty : a ≡ [] = front_of_nil a p.0 (sym none ∙ p.1) in
          (drop from text', sym (ap (λ (l : List ℕ). l ++ drop from text') empty))
    ]

-- a front of a copy stands where the copy was made
pub StandsAt-copied : (text : Option (List ℕ)) (from count taken : ℕ) (buffer : List ℕ) → Copies text from buffer count → taken ≤ count → StandsAt text from (take taken (take count buffer))
StandsAt-copied None from count taken buffer p within = tt
StandsAt-copied (Some text) from count taken buffer p within =
    let front : take taken (take count buffer) ≡ take taken (drop from text) =
    ap (take taken) p.1 ∙ take-take taken count (drop from text) within in (
      drop taken (drop from text),
      sym (ap (λ (l : List ℕ). l ++ drop taken (drop from text)) front ∙ take-append-drop taken (drop from text)),
    )

-- a copy of nothing, with room for some, shows that the text ends there
pub EndsAt-copied : (text : Option (List ℕ)) (from : ℕ) (buffer : List ℕ) → Copies text from buffer 0 → 0 < length buffer → EndsAt text from
EndsAt-copied None from buffer p room = tt
EndsAt-copied (Some text) from buffer p room = let n = length-drop from text in omega (arith, p.0)
