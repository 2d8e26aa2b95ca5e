-- What holds of a journal and of each before it.
use Rattle.std.proofs.Common.{◌≡◌, List, [], ◌∷◌, ◌++◌, reverse, Option, sym, ◌∙◌, ap, subst}
use Rattle.std.proofs.lemmas.List.{reverse-append, reverse-reverse}
use Rattle.acct_totals.specs.declared.op.Op.{Op}
use Rattle.acct_totals.specs.declared.op.Outcome.{Outcome}
use Rattle.acct_totals.specs.declared.op.Booked.{Booked}
use Rattle.acct_book.specs.declared.holds.Before.{Before}
use Rattle.acct_book.specs.Stored.{Stored, step_of, undone}
use Rattle.acct_book.specs.Ledger.{IsStored, IsMarked, IsStoredBack, EachBack}
use Rattle.acct_book.proofs.Pushed.{entry}
use Rattle.acct_book.proofs.StoredLemmas.{stored-step, undone-step, marked-step}

reversed : {X : Type 0} (xs : List X) (b : X) → reverse (xs ++ b ∷ []) ≡ b ∷ reverse xs
reversed xs b = reverse-append xs (b ∷ [])

again : {X : Type 0} (xs : List X) (b : X) → reverse (b ∷ reverse xs) ≡ xs ++ b ∷ []
again xs b = ap reverse (sym (reversed xs b)) ∙ reverse-reverse (xs ++ b ∷ [])

module _ (P : List Booked → Type 0) where
  pub each_back-push : (xs : List Booked) (b : Booked) → EachBack P (reverse xs) → P (xs ++ b ∷ []) → EachBack P (reverse (xs ++ b ∷ []))
  each_back-push xs b h p = subst (EachBack P) (sym (reversed xs b)) (subst P (sym (again xs b)) p, h)

  pub each_back-pop : (xs : List Booked) (b : Booked) → EachBack P (reverse (xs ++ b ∷ [])) → EachBack P (reverse xs)
  each_back-pop xs b h = let r : EachBack P (b ∷ reverse xs) = subst (EachBack P) (reversed xs b) h in r.1

  first : (bs : List Booked) → EachBack P bs → P (reverse bs)
  first [] h = h
  first (b ∷ bs) h = h.0

  pub each_back-top : (xs : List Booked) → EachBack P (reverse xs) → P xs
  each_back-top xs h = subst P (reverse-reverse xs) (first (reverse xs) h)

pub each_back-map : (P Q : List Booked → Type 0) → ((xs : List Booked) → P xs → Q xs) → (bs : List Booked) → EachBack P bs → EachBack Q bs
each_back-map P Q f [] h = f [] h
each_back-map P Q f (b ∷ bs) h = (f (reverse (b ∷ bs)) h.0, each_back-map P Q f bs h.1)

stored-first : (st : Stored) (bs : List Booked) (ws : List (Option Before)) → IsStoredBack st bs ws → IsStored st (reverse bs)
stored-first st [] ws h = h
stored-first st (b ∷ bs) [] h = absurd h
stored-first st (b ∷ bs) (w ∷ ws) h = h.0

pub stored-top : (st : Stored) (xs : List Booked) (ws : List (Option Before)) → IsStoredBack st (reverse xs) ws → IsStored st xs
stored-top st xs ws h = subst (IsStored st) (reverse-reverse xs) (stored-first st (reverse xs) ws h)

-- one more operation, carried out
pub stored_back-push : (st : Stored) (xs : List Booked) (ws : List (Option Before)) (op : Op) (o : Outcome) → IsStoredBack st (reverse xs) (reverse ws)
    → IsStoredBack (step_of st op o).0 (reverse (xs ++ entry op o ∷ [])) (reverse (ws ++ (step_of st op o).1 ∷ []))
stored_back-push st xs ws op o h =
    subst (λ bs. IsStoredBack (step_of st op o).0 bs (reverse (ws ++ (step_of st op o).1 ∷ []))) (sym (reversed xs (entry op o)))
    (subst (IsStoredBack (step_of st op o).0 (entry op o ∷ reverse xs)) (sym (reversed ws (step_of st op o).1)) (
      subst (IsStored (step_of st op o).0) (sym (again xs (entry op o))) (stored-step st xs (stored-top st xs (reverse ws) h) op o),
      (marked-step st op o, subst (λ s. IsStoredBack s (reverse xs) (reverse ws)) (sym (undone-step st op o)) h),
    ))

-- the last one, put back
pub stored_back-pop : (st : Stored) (xs : List Booked) (ws : List (Option Before)) (b : Booked) (w : Option Before) → IsStoredBack st (reverse (xs ++ b ∷ [])) (reverse (ws ++ w ∷ []))
    → IsMarked st b.op w × IsStoredBack (undone st b.op w) (reverse xs) (reverse ws)
stored_back-pop st xs ws b w h =
    let r : IsStoredBack st (b ∷ reverse xs) (w ∷ reverse ws) =
    subst (IsStoredBack st (b ∷ reverse xs)) (reversed ws w) (subst (λ bs. IsStoredBack st bs (reverse (ws ++ w ∷ []))) (reversed xs b) h) in r.1
