-- What holds of each item after those before it, in longer and shorter lists.
use Rattle.std.proofs.Common.{◌≡◌, List, [], ◌∷◌, ◌++◌, ◌∙◌, sym, ap, subst, append_assoc}
use Rattle.std.specs.Prelude.{flat_map}
use Rattle.std.proofs.lemmas.Grind.{flat_map-append}
use Rattle.std.proofs.lemmas.List.{append-nil}
use Rattle.acct_book.specs.Laws.{EachAfter}

-- two lists, one behind the other
pub EachAfter-append : {X : Type 0} (P : List X → X → Type 0) (past xs ys : List X) → EachAfter P past xs
    → EachAfter P (past ++ xs) ys → EachAfter P past (xs ++ ys)
EachAfter-append P past [] ys h k = subst (λ zs. EachAfter P zs ys) (append-nil past) k
EachAfter-append P past (x ∷ xs) ys h k = (
  h.0,
  EachAfter-append P (past ++ x ∷ []) xs ys h.1
      (subst (λ zs. EachAfter P zs ys) (sym (append_assoc past (x ∷ []) xs)) k),
)

-- and apart again
pub EachAfter-front : {X : Type 0} (P : List X → X → Type 0) (past xs ys : List X) → EachAfter P past (xs ++ ys)
    → EachAfter P past xs
EachAfter-front P past [] ys h = tt
EachAfter-front P past (x ∷ xs) ys h = (h.0, EachAfter-front P (past ++ x ∷ []) xs ys h.1)

pub EachAfter-rest : {X : Type 0} (P : List X → X → Type 0) (past xs ys : List X) → EachAfter P past (xs ++ ys)
    → EachAfter P (past ++ xs) ys
EachAfter-rest P past [] ys h = subst (λ zs. EachAfter P zs ys) (sym (append-nil past)) h
EachAfter-rest P past (x ∷ xs) ys h =
    subst (λ zs. EachAfter P zs ys) (append_assoc past (x ∷ []) xs) (EachAfter-rest P (past ++ x ∷ []) xs ys h.1)

-- one more item, and without the last
pub EachAfter-snoc : {X : Type 0} (P : List X → X → Type 0) (xs : List X) (x : X) → EachAfter P [] xs → P xs x
    → EachAfter P [] (xs ++ x ∷ [])
EachAfter-snoc P xs x h p = EachAfter-append P [] xs (x ∷ []) h (p, tt)

pub EachAfter-last : {X : Type 0} (P : List X → X → Type 0) (xs : List X) (x : X) → EachAfter P [] (xs ++ x ∷ [])
    → P xs x
EachAfter-last P xs x h = (EachAfter-rest P [] xs (x ∷ []) h).0

-- a view of a longer list is made item by item
pub flat_map-snoc : {X Y : Type 0} (give : X → List Y) (xs : List X) (x : X)
    → flat_map give (xs ++ x ∷ []) ≡ flat_map give xs ++ give x
flat_map-snoc give xs x = flat_map-append give xs (x ∷ []) ∙ ap (λ ys. flat_map give xs ++ ys) (append-nil (give x))
