-- All lines, with one of them changed or one more.
use Rattle.std.proofs.Common.{◌≡◌, ℕ, zero, suc, ◌+◌, ◌-◌, false, List, [], ◌∷◌, ◌++◌, length, set, Some, Result, Ok, Err, refl, sym, subst, arith}
use Rattle.std.specs.Prelude.{slice_get, ◌==◌, OnOk}
use Rattle.std.proofs.lemmas.Bool.Decides.{nat_tests}
use Rattle.bench_item.specs.declared.opening.Opening.{Opening}
use Rattle.bench_item.specs.Lines.{LineStep}
use Rattle.bench_line.specs.Line.{LineView, Stands}
use Rattle.bench_line.specs.Lines.{Past, StandFrom, AreLinesAfter, IsPlace, with_step_at, with_step, opened}
use Rattle.bench_line.specs.Talk.{Meaning}

-- A line that stands for one step more.
abbrev pub StandsOn : Meaning → ℕ → LineStep → LineView → LineView → Type 0
StandsOn m line step l new = (opening : Opening) (happened : List LineStep) → Stands m line l opening happened → Stands m line new opening (happened ++ step ∷ [])

from-set : (m : Meaning) (first place line : ℕ) (step : LineStep) (ls : List LineView) (pasts : List Past) (l new : LineView) → line ≡ first + place → StandFrom m first ls pasts → slice_get ls place ≡ Some l
    → StandsOn m line step l new → StandFrom m first (set ls place new) (with_step_at place step pasts)
from-set m first place line step [] [] l new n s e h = absurd cc
from-set m first place line step [] (past ∷ pasts) l new n s e h = elim s [ ]
from-set m first zero line step (x ∷ ls) [] l new n s e h = elim s [ ]
from-set m first (suc place) line step (x ∷ ls) [] l new n s e h = elim s [ ]
from-set m first zero line step (x ∷ ls) (past ∷ pasts) l new n s e h =
    let number : line ≡ first = omega (arith, n) in
    let is : x ≡ l = let g : Some x ≡ Some l = e in cc in
    let old : Stands m line l past.opening past.happened = subst (λ (y : LineView). Stands m line y past.opening past.happened) is (subst (λ (k : ℕ). Stands m k x past.opening past.happened) (sym number) s.0) in
    (subst (λ (k : ℕ). Stands m k new past.opening (past.happened ++ step ∷ [])) number (h past.opening past.happened old), s.1)
from-set m first (suc place) line step (x ∷ ls) (past ∷ pasts) l new n s e h = (s.0, from-set m (first + 1) place line step ls pasts l new (omega (arith, n)) s.1 e h)

from-push : (m : Meaning) (first line : ℕ) (ls : List LineView) (pasts : List Past) (l : LineView) (opening : Opening) → line ≡ first + length ls → StandFrom m first ls pasts → Stands m line l opening []
    → StandFrom m first (ls ++ l ∷ []) (opened opening pasts)
from-push m first line [] [] l opening n s h = (subst (λ (k : ℕ). Stands m k l opening []) (omega (arith, n)) h, tt)
from-push m first line [] (past ∷ pasts) l opening n s h = elim s [ ]
from-push m first line (x ∷ ls) [] l opening n s h = elim s [ ]
from-push m first line (x ∷ ls) (past ∷ pasts) l opening n s h = (s.0, from-push m (first + 1) line ls pasts l opening (omega (arith, n)) s.1 h)

-- a step at the place of a line
with_step-place : (line place : ℕ) (step : LineStep) (pasts : List Past) → (line == 0) ≡ false → place ≡ line - 1 → with_step line step pasts ≡ with_step_at place step pasts
with_step-place line place step pasts z p = rw (z, p) refl

-- One line stands for one step more.
pub stands-set : (m : Meaning) (line place : ℕ) (step : LineStep) (ls : List LineView) (l new : LineView) → IsPlace ls line place → slice_get ls place ≡ Some l → StandsOn m line step l new
    → (pasts : List Past) → AreLinesAfter m ls pasts → AreLinesAfter m (set ls place new) (with_step line step pasts)
stands-set m line place step ls l new p e h pasts s =
    let number : line ≡ 1 + place = grind (arith, nat_tests, p.some, p.is) in
    let each = from-set m 1 place line step ls pasts l new number s.each e h in
    record { each = subst (λ (ps : List Past). StandFrom m 1 (set ls place new) ps) (sym (with_step-place line place step pasts p.some p.is)) each }

-- One line more stands, to which nothing happened yet.
pub stands-push : (m : Meaning) (ls : List LineView) (l : LineView) (opening : Opening) → Stands m (length ls + 1) l opening [] → (pasts : List Past) → AreLinesAfter m ls pasts → AreLinesAfter m (ls ++ l ∷ []) (opened opening pasts)
stands-push m ls l opening h pasts s = record { each = from-push m 1 (length ls + 1) ls pasts l opening (omega arith) s.each h }

-- what follows from what a call that was taken did
pub on_ok : {X E P Q : Type 0} (r : Result X E) → OnOk r P → (P → Q) → OnOk r Q
on_ok (Ok x) h f = f h
on_ok (Err e) h f = tt
