-- A call that was not refused: the line is such that its step may come.
use Rattle.std.proofs.Common.{◌≡◌, ℕ, zero, suc, ◌+◌, ◌-◌, false, List, [], ◌∷◌, ◌++◌, length, get_or, set, map, Option, Some, None, refl, sym, ap, subst, ◌∙◌, arith}
use Rattle.std.specs.Prelude.{slice_get, ◌==◌}
use Rattle.std.specs.Option.{option_and_then}
use Rattle.std.proofs.lemmas.Bool.Decides.{nat_tests}
use Rattle.std.proofs.lemmas.Option.{slice_get-get_or}
use Rattle.dia_frame.specs.declared.fault.FrameFault.{FrameFault}
use Rattle.bench_item.specs.declared.item.LineItem.{LineItem}
use Rattle.bench_item.specs.declared.line_state.LineState.{LineState}
use Rattle.bench_item.specs.declared.line_state.LineState.TheVariants as state
use Rattle.bench_item.specs.declared.opening.Opening.{Opening}
use Rattle.bench_item.specs.Lines.{LineStep, Acknowledged, Received, Gone, Delivered}
use Rattle.bench_item.specs.declared.step.StepFault.{StepFault}
use Rattle.bench_line.specs.declared.line.Before.{Before}
use Rattle.bench_line.specs.declared.line.FramerBefore.TheVariants.{Same}
use Rattle.bench_line.specs.Before.{before_of, restored}
use Rattle.bench_line.specs.Line.{LineView, Stands, acknowledged, lost, delivered}
use Rattle.bench_line.specs.Lines.{IsPlace, Past, AreLinesAfter, StandFrom, fault_at, line_at, put_out, with_line, with_step, refusal_by, dialled_refused, came_refused, lost_refused, dialled_refusal, came_refusal, lost_refusal}
use Rattle.bench_line.specs.Rounds.{Receives}
use Rattle.bench_line.specs.Talk.{Meaning, fault_met, stream_of}
use Rattle.bench_line.proofs.StandLemmas.{stands-set}
use Rattle.bench_line.proofs.ChangeLemmas.{changed, line_at-place, restored-acknowledged, restored-lost, restored-delivered, put_out-posted, lifted-same}
use Rattle.bench_line.proofs.EventLemmas.{acknowledges, loses}
use Rattle.bench_line.proofs.DeedLemmas.{delivers}

-- the line at a place
pub at_place : (ls : List LineView) (line place : ℕ) (l : LineView) → IsPlace ls line place → l ≡ get_or ls place l → slice_get ls place ≡ Some l
at_place ls line place l p e = slice_get-get_or ls place l p.within ∙ ap Some (sym e)

by_line : (refused : LineView → Option StepFault) (ls : List LineView) (line place : ℕ) (l : LineView) → IsPlace ls line place → slice_get ls place ≡ Some l → refusal_by refused (line_at ls line) ≡ None → refused l ≡ None
by_line refused ls line place l p e r = ap (refusal_by refused) (sym (line_at-place ls line place p.some p.is ∙ e)) ∙ r

dialled_by : (l : LineView) (x : LineState) → dialled_refused l x ≡ None → (peer : ℕ) × (x ≡ state.Dialling peer)
dialled_by l state.Closed e = absurd cc
dialled_by l state.Open e = absurd cc
dialled_by l (state.Dialling peer) e = (peer, refl)

came_by : (l : LineView) (x : LineState) → came_refused l x ≡ None → x ≡ state.Open
came_by l state.Open e = refl
came_by l state.Closed e = absurd cc
came_by l (state.Dialling peer) e = absurd cc

lost_by : (l : LineView) (x : LineState) → lost_refused l x ≡ None → x ≡ state.Closed → ⊥
lost_by l state.Closed e c = absurd cc
lost_by l state.Open e c = absurd cc
lost_by l (state.Dialling peer) e c = absurd cc

pub dialled-stands : (m : Meaning) (ls : List LineView) (line place : ℕ) (l new : LineView) → IsPlace ls line place → dialled_refusal ls line ≡ None → l ≡ get_or ls place l → new ≡ acknowledged m line l
    → (pasts : List Past) → AreLinesAfter m ls pasts → AreLinesAfter m (set ls place new) (with_step line Acknowledged pasts)
dialled-stands m ls line place l new p r e n =
    let is = at_place ls line place l p e in
    let d = dialled_by l l.state (by_line (λ x. dialled_refused x x.state) ls line place l p is r) in
    stands-set m line place Acknowledged ls l new p is (λ opening happened s. subst (λ (x : LineView). Stands m line x opening (happened ++ Acknowledged ∷ [])) (sym n) (acknowledges m line l opening happened d.0 s d.1))

pub lost-stands : (m : Meaning) (ls : List LineView) (line place : ℕ) (l new : LineView) → IsPlace ls line place → lost_refusal ls line ≡ None → l ≡ get_or ls place l → new ≡ lost m line l
    → (pasts : List Past) → AreLinesAfter m ls pasts → AreLinesAfter m (set ls place new) (with_step line Gone pasts)
lost-stands m ls line place l new p r e n =
    let is = at_place ls line place l p e in
    let d = lost_by l l.state (by_line (λ x. lost_refused x x.state) ls line place l p is r) in
    stands-set m line place Gone ls l new p is (λ opening happened s. subst (λ (x : LineView). Stands m line x opening (happened ++ Gone ∷ [])) (sym n) (loses m line l opening happened s d))

pub delivered-stands : (m : Meaning) (ls : List LineView) (line place : ℕ) (item : LineItem) (l new : LineView) → IsPlace ls line place → l ≡ get_or ls place l → new ≡ delivered m item l
    → (pasts : List Past) → AreLinesAfter m ls pasts → AreLinesAfter m (set ls place new) (with_step line (Delivered item) pasts)
delivered-stands m ls line place item l new p e n =
    let is = at_place ls line place l p e in
    stands-set m line place (Delivered item) ls l new p is (λ opening happened s. subst (λ (x : LineView). Stands m line x opening (happened ++ Delivered item ∷ [])) (sym n) (delivers m line l opening happened item s))

-- A line that is put back as it was leaves all lines as they were.
pub undone : (ls : List LineView) (line place : ℕ) (l new : LineView) (before : Before) → IsPlace ls line place → l ≡ get_or ls place l → restored before new ≡ l → with_line line (restored before) (set ls place new) ≡ ls
undone ls line place l new before p e r = (changed ls line place l new p (at_place ls line place l p e)).back (restored before) r

pub dialled-undone : (m : Meaning) (line : ℕ) (l new : LineView) (before : Before) → new ≡ acknowledged m line l → before ≡ before_of Same l → restored before new ≡ l
dialled-undone m line l new before n b = rw (n, b) (restored-acknowledged m line l)

pub lost-undone : (m : Meaning) (line : ℕ) (l new : LineView) (before : Before) → new ≡ lost m line l → before ≡ before_of Same l → restored before new ≡ l
lost-undone m line l new before n b = rw (n, b) (restored-lost m line l)

pub delivered-undone : (m : Meaning) (item : LineItem) (l new : LineView) (before : Before) → new ≡ delivered m item l → before ≡ before_of Same l → restored before new ≡ l
delivered-undone m item l new before n b = rw (n, b) (restored-delivered m item l)

-- how many items of each line were lifted
pub lifted_kept : (ls : List LineView) (line place : ℕ) (l new : LineView) (before : Before) → IsPlace ls line place → l ≡ get_or ls place l → restored before new ≡ l → map (λ x. x.lifted) (set ls place new) ≡ map (λ x. x.lifted) ls
lifted_kept ls line place l new before p e r = lifted-same ls line place l new before p (at_place ls line place l p e) r

-- how many items were put out
pub posted : (ls : List LineView) (line place : ℕ) (l new : LineView) (before : Before) → IsPlace ls line place → l ≡ get_or ls place l → restored before new ≡ l → before.outbox ≡ length l.outbox
    → put_out (set ls place new) line ≡ put_out ls line + (length new.outbox - before.outbox)
posted ls line place l new before p e r o = put_out-posted ls (set ls place new) line l new before (changed ls line place l new p (at_place ls line place l p e)) r o

-- The past of a line that is there.
record HasPast (m : Meaning) (line place : ℕ) (l : LineView) (pasts : List Past) : Type 0 where
  pub past : Past
  pub there : slice_get pasts place ≡ Some past
  pub stands : Stands m line l past.opening past.happened

past_from : (m : Meaning) (first place line : ℕ) (ls : List LineView) (pasts : List Past) (l : LineView) → line ≡ first + place → StandFrom m first ls pasts → slice_get ls place ≡ Some l → HasPast m line place l pasts
past_from m first place line [] pasts l n s e = absurd cc
past_from m first place line (x ∷ ls) [] l n s e = elim s [ ]
past_from m first zero line (x ∷ ls) (past ∷ pasts) l n s e =
    let number : line ≡ first = omega (arith, n) in
    let is : x ≡ l = let g : Some x ≡ Some l = e in cc in
    record { past = past; there = refl; stands = subst (λ (y : LineView). Stands m line y past.opening past.happened) is (subst (λ (k : ℕ). Stands m k x past.opening past.happened) (sym number) s.0) }
past_from m first (suc place) line (x ∷ ls) (past ∷ pasts) l n s e =
    let h = past_from m (first + 1) place line ls pasts l (omega (arith, n)) s.1 e in
    record { past = h.past; there = h.there; stands = h.stands }

fault_at-place : (m : Meaning) (line place : ℕ) (piece : List ℕ) (pasts : List Past) (past : Past) → (line == 0) ≡ false → place ≡ line - 1 → slice_get pasts place ≡ Some past → fault_at m line piece pasts ≡ fault_met m line past.opening (stream_of past.happened ++ piece)
fault_at-place m line place piece pasts past z p e =
    let here : fault_at m line piece pasts ≡ option_and_then (λ (x : Past). fault_met m line x.opening (stream_of x.happened ++ piece)) (slice_get pasts place) = rw (z, p) refl in
    here ∙ ap (option_and_then (λ (x : Past). fault_met m line x.opening (stream_of x.happened ++ piece))) e

met_at : (m : Meaning) (line place : ℕ) (piece : List ℕ) (new : LineView) (ended : Option FrameFault) (pasts : List Past) (past : Past) → (line == 0) ≡ false → place ≡ line - 1 → slice_get pasts place ≡ Some past
    → Receives m line past.opening past.happened piece new ended → ended ≡ fault_at m line piece pasts
met_at m line place piece new ended pasts past z p e r = r.met ∙ sym (fault_at-place m line place piece pasts past z p e)

-- A line that is open stands for what comes.
abbrev pub ReceivesOn : Meaning → ℕ → List ℕ → LineView → LineView → Option FrameFault → Type 0
ReceivesOn m line piece l new ended = (opening : Opening) (happened : List LineStep) → Stands m line l opening happened → l.state ≡ state.Open → Receives m line opening happened piece new ended

pub came-stands : (m : Meaning) (ls : List LineView) (line place : ℕ) (piece : List ℕ) (l new : LineView) (ended : Option FrameFault) → IsPlace ls line place → came_refusal ls line ≡ None → l ≡ get_or ls place l → ReceivesOn m line piece l new ended
    → (pasts : List Past) → AreLinesAfter m ls pasts → AreLinesAfter m (set ls place new) (with_step line (Received piece) pasts)
came-stands m ls line place piece l new ended p r e h =
    let is = at_place ls line place l p e in
    let going = came_by l l.state (by_line (λ x. came_refused x x.state) ls line place l p is r) in
    stands-set m line place (Received piece) ls l new p is (λ opening happened s. (h opening happened s going).stands)

pub came-ended : (m : Meaning) (ls : List LineView) (line place : ℕ) (piece : List ℕ) (l new : LineView) (ended : Option FrameFault) → IsPlace ls line place → came_refusal ls line ≡ None → l ≡ get_or ls place l → ReceivesOn m line piece l new ended
    → (pasts : List Past) → AreLinesAfter m ls pasts → ended ≡ fault_at m line piece pasts
came-ended m ls line place piece l new ended p r e h pasts s =
    let is = at_place ls line place l p e in
    let going = came_by l l.state (by_line (λ x. came_refused x x.state) ls line place l p is r) in
    let number : line ≡ 1 + place = grind (arith, nat_tests, p.some, p.is) in
    let at = past_from m 1 place line ls pasts l number s.each is in
    met_at m line place piece new ended pasts at.past p.some p.is at.there (h at.past.opening at.past.happened at.stands going)
