-- Entries whose AVPs are missing, looked at one after the other.
use Rattle.std.proofs.Common.{◌≡◌, ◌==◌, ◌&&◌, ℕ, zero, suc, ◌+◌, ◌<◌, Bool, true, false, cond, not, List, [], ◌∷◌, length, take, drop, filter, get_or, None, Some, refl, sym, ap, ◌∙◌, arith}
use Rattle.std.specs.Prelude.{slice_get, is_some}
use Rattle.std.proofs.lemmas.Bool.{eqb-true}
use Rattle.std.proofs.lemmas.Option.{slice_get-get_or}
use Rattle.dia_avp.specs.declared.avp.Avp.{Avp}
use Rattle.dia_command.specs.declared.format.AvpFormat.{AvpFormat}
use Rattle.dia_msg.specs.declared.sorting.Sorted.{Sorted}
use Rattle.dia_msg.specs.Taken.{is_for, is_missing, missing}
use Rattle.dia_msg.specs.Sorting.{IsSorted}

pub split_at : {X : Type 0} (xs : List X) (k : ℕ) (d : X) → k < length xs → drop k xs ≡ get_or xs k d ∷ drop (k + 1) xs
split_at [] k d lt = absurd (omega arith)
split_at (x ∷ xs) zero d lt = refl
split_at (x ∷ xs) (suc k) d lt = let e : suc k + 1 ≡ suc (k + 1) = omega arith in rw e (split_at xs k d (omega arith))

not_zero : (n : ℕ) (b : Bool) → (suc n == 0) ≡ b → b ≡ false
not_zero n true e = let h : suc n ≡ 0 = eqb-true (suc n) 0 e in absurd (omega (arith, h))
not_zero n false e = refl

none_of : (b : Bool) (l : List Avp) (s : Bool) → is_some (slice_get l 0) ≡ s → (length (cond b l (take 1 l)) == 0) ≡ not s
none_of true [] s e = rw (← e) refl
none_of false [] s e = rw (← e) refl
none_of true (a ∷ l) s e = rw (← e) (not_zero (length l) (suc (length l) == 0) refl)
none_of false (a ∷ l) s e = rw (← e) refl

abbrev found : Sorted → ℕ → Bool
found s k = is_some (get_or s.firsts k None)

missing_by : (formats : List AvpFormat) (list : List Avp) (s : Sorted) (k : ℕ) (d : AvpFormat) → IsSorted formats list s → k < length formats → is_missing list (get_or formats k d) ≡ ((get_or formats k d).required && not (found s k))
missing_by formats list s k d h lt =
    let f = get_or formats k d in
    ap (λ (b : Bool). f.required && b) (none_of f.several (filter (is_for f) list) (found s k) (sym (h.there k f (slice_get-get_or formats k d lt))))

abbrev kept_by : Bool → AvpFormat → List AvpFormat → List AvpFormat
kept_by b f fs = cond b (f ∷ fs) fs

next : (formats : List AvpFormat) (list : List Avp) (s : Sorted) (k : ℕ) (d : AvpFormat) → IsSorted formats list s → k < length formats
    → missing (drop k formats) list ≡ kept_by ((get_or formats k d).required && not (found s k)) (get_or formats k d) (missing (drop (k + 1) formats) list)
next formats list s k d h lt = rw (split_at formats k d lt) (ap (λ (b : Bool). kept_by b (get_or formats k d) (missing (drop (k + 1) formats) list)) (missing_by formats list s k d h lt))

pub missing_here : (formats : List AvpFormat) (list : List Avp) (s : Sorted) (k : ℕ) (d : AvpFormat) → IsSorted formats list s → k < length formats → (get_or formats k d).required ≡ true → found s k ≡ false
    → missing formats list ≡ missing (drop k formats) list → Some (get_or formats k d) ≡ slice_get (missing formats list) 0
missing_here formats list s k d h lt required none e = sym (rw (e, next formats list s k d h lt, required, none) refl)

pub present_here : (formats : List AvpFormat) (list : List Avp) (s : Sorted) (k : ℕ) (d : AvpFormat) (r : Bool) → IsSorted formats list s → k < length formats → ((get_or formats k d).required && not (found s k)) ≡ false
    → missing formats list ≡ missing (drop k formats) list → missing formats list ≡ missing (drop (k + 1) formats) list
present_here formats list s k d r h lt there e = e ∙ next formats list s k d h lt ∙ rw there refl
