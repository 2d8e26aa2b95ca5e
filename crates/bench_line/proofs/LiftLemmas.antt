-- Lifting an item, and a call on a line that is not there.
use Rattle.std.proofs.Common.{◌≡◌, ℕ, zero, suc, ◌+◌, ◌-◌, ◌<◌, Bool, true, false, List, [], ◌∷◌, length, get_or, set, Some, None, refl, sym, ap, subst, ◌∙◌, arith}
use Rattle.std.specs.Prelude.{slice_get, ◌==◌, nat_lt, if◌then◌else◌}
use Rattle.std.proofs.lemmas.Bool.{ltb-true}
use Rattle.bench_item.specs.declared.opening.Opening.{Opening}
use Rattle.bench_item.specs.Lines.{LineStep}
use Rattle.bench_line.specs.Line.{LineView, Stands}
use Rattle.bench_line.specs.Lines.{IsPlace, Past, StandFrom, AreLinesAfter, line_at, lifted_one, with_line, with_line_at, with_step, with_step_at}
use Rattle.bench_line.specs.Talk.{Meaning}
use Rattle.bench_line.proofs.AliveLemmas.{keeps_same}
use Rattle.bench_line.proofs.ChangeLemmas.{changed}
use Rattle.bench_line.proofs.CallLemmas.{at_place}

-- what is done to a line that is not there
with-none : (ls : List LineView) (place : ℕ) (f : LineView → LineView) → slice_get ls place ≡ None → with_line_at place f ls ≡ ls
with-none [] place f e = refl
with-none (x ∷ ls) zero f e = absurd cc
with-none (x ∷ ls) (suc place) f e = ap (λ (ys : List LineView). x ∷ ys) (with-none ls place f e)

pub with_line-none : (ls : List LineView) (line : ℕ) (f : LineView → LineView) → line_at ls line ≡ None → with_line line f ls ≡ ls
with_line-none ls line f e = by (line == 0) e
  where
    by : (b : Bool) → (if b then None else slice_get ls (line - 1)) ≡ None → (if b then ls else with_line_at (line - 1) f ls) ≡ ls
    by true h = refl
    by false h = with-none ls (line - 1) f h

step-none : (m : Meaning) (first place : ℕ) (step : LineStep) (ls : List LineView) (pasts : List Past) → StandFrom m first ls pasts → slice_get ls place ≡ None → with_step_at place step pasts ≡ pasts
step-none m first place step [] [] s e = refl
step-none m first place step [] (past ∷ pasts) s e = elim s [ ]
step-none m first place step (x ∷ ls) [] s e = elim s [ ]
step-none m first zero step (x ∷ ls) (past ∷ pasts) s e = absurd cc
step-none m first (suc place) step (x ∷ ls) (past ∷ pasts) s e = ap (λ (ps : List Past). past ∷ ps) (step-none m (first + 1) place step ls pasts s.1 e)

-- All lines stand for a step of one that is not there.
pub stands-none : (m : Meaning) (ls : List LineView) (line : ℕ) (step : LineStep) → line_at ls line ≡ None → (pasts : List Past) → AreLinesAfter m ls pasts → AreLinesAfter m ls (with_step line step pasts)
stands-none m ls line step e pasts s = by (line == 0) e
  where
    by : (b : Bool) → (if b then None else slice_get ls (line - 1)) ≡ None → AreLinesAfter m ls (if b then pasts else with_step_at (line - 1) step pasts)
    by true h = s
    by false h = subst (AreLinesAfter m ls) (sym (step-none m 1 (line - 1) step ls pasts s.each h)) s

stands-lifted : (m : Meaning) (line : ℕ) (l : LineView) (opening : Opening) (happened : List LineStep) → Stands m line l opening happened → Stands m line (lifted_one l) opening happened
stands-lifted m line l opening happened s = by (nat_lt l.lifted (length l.outbox)) refl
  where
    by : (b : Bool) → nat_lt l.lifted (length l.outbox) ≡ b → Stands m line (if b then record l { lifted = l.lifted + 1 } else l) opening happened
    by true e =
        let less : l.lifted < length l.outbox = ltb-true l.lifted (length l.outbox) e in
        record { can_come = s.can_come; opened = s.opened; state = s.state; outbox = s.outbox; lifted = omega (arith, less); sent = s.sent; keeps = keeps_same m line l (record l { lifted = l.lifted + 1 }) opening happened happened l.state s.keeps refl refl refl refl refl }
    by false e = s

from-lifted : (m : Meaning) (first place : ℕ) (ls : List LineView) (pasts : List Past) → StandFrom m first ls pasts → StandFrom m first (with_line_at place lifted_one ls) pasts
from-lifted m first place [] pasts s = s
from-lifted m first place (x ∷ ls) [] s = elim s [ ]
from-lifted m first zero (x ∷ ls) (past ∷ pasts) s = (stands-lifted m first x past.opening past.happened s.0, s.1)
from-lifted m first (suc place) (x ∷ ls) (past ∷ pasts) s = (s.0, from-lifted m (first + 1) place ls pasts s.1)

-- All lines stand as before once an item is lifted.
pub stands-lift : (m : Meaning) (ls : List LineView) (line : ℕ) → (pasts : List Past) → AreLinesAfter m ls pasts → AreLinesAfter m (with_line line lifted_one ls) pasts
stands-lift m ls line pasts s = by (line == 0)
  where
    by : (b : Bool) → AreLinesAfter m (if b then ls else with_line_at (line - 1) lifted_one ls) pasts
    by true = s
    by false = record { each = from-lifted m 1 (line - 1) ls pasts s.each }

set-with : (ls : List LineView) (place : ℕ) (l : LineView) (f : LineView → LineView) → slice_get ls place ≡ Some l → set ls place (f l) ≡ with_line_at place f ls
set-with [] place l f e = absurd cc
set-with (x ∷ ls) zero l f e = let g : Some x ≡ Some l = e in let is : x ≡ l = cc in ap (λ (y : LineView). f y ∷ ls) (sym is)
set-with (x ∷ ls) (suc place) l f e = ap (λ (ys : List LineView). x ∷ ys) (set-with ls place l f e)

-- a line that is set is one that something was done to
pub set-line : (ls : List LineView) (line place : ℕ) (l new : LineView) (f : LineView → LineView) → IsPlace ls line place → l ≡ get_or ls place l → new ≡ f l → set ls place new ≡ with_line line f ls
set-line ls line place l new f p e n =
    let one : with_line line f ls ≡ with_line_at place f ls = rw (p.some, p.is) refl in
    ap (set ls place) n ∙ set-with ls place l f (at_place ls line place l p e) ∙ sym one

-- the item that was lifted waits again
pub unlifted : (ls : List LineView) (line place : ℕ) (l new : LineView) → IsPlace ls line place → l ≡ get_or ls place l → new ≡ lifted_one l → nat_lt l.lifted (length l.outbox) ≡ true
    → with_line line (λ x. record x { lifted = x.lifted - 1 }) (set ls place new) ≡ ls
unlifted ls line place l new p e n t =
    let up : lifted_one l ≡ record l { lifted = l.lifted + 1 } = ap (λ (b : Bool). if b then record l { lifted = l.lifted + 1 } else l) t in
    let P : ℕ → LineView = λ k. record l { lifted = k } in
    let back : record new { lifted = new.lifted - 1 } ≡ l = ap (λ (x : LineView). record x { lifted = x.lifted - 1 }) (n ∙ up) ∙ ap P (omega arith) in
    (changed ls line place l new p (at_place ls line place l p e)).back (λ x. record x { lifted = x.lifted - 1 }) back

-- nothing was lifted
pub unlifted-none : (ls : List LineView) (line place : ℕ) (l new : LineView) → IsPlace ls line place → l ≡ get_or ls place l → new ≡ lifted_one l → nat_lt l.lifted (length l.outbox) ≡ false → set ls place new ≡ ls
unlifted-none ls line place l new p e n t =
    let up : lifted_one l ≡ l = ap (λ (b : Bool). if b then record l { lifted = l.lifted + 1 } else l) t in
    ap (set ls place) (n ∙ up) ∙ same ls place (at_place ls line place l p e)
  where
    same : (xs : List LineView) (k : ℕ) → slice_get xs k ≡ Some l → set xs k l ≡ xs
    same [] k h = refl
    same (x ∷ xs) zero h = let g : Some x ≡ Some l = h in let is : x ≡ l = cc in ap (λ (y : LineView). y ∷ xs) (sym is)
    same (x ∷ xs) (suc k) h = ap (λ (ys : List LineView). x ∷ ys) (same xs k h)
