-- A dial is given up, and that is taken back.
use Rattle.std.proofs.Common.{◌≡◌, ℕ, zero, suc, ◌+◌, ◌<◌, ◌≤◌, Bool, true, false, List, [], ◌∷◌, ◌++◌, length, take, drop, map, set, get_or, refl, sym, ap, ◌∙◌, arith}
use Rattle.std.proofs.lemmas.List.{take_at, length-map}
use Rattle.std.specs.Prelude.{if◌then◌else◌}
use Rattle.bench_item.specs.declared.line_state.LineState.{LineState}
use Rattle.bench_item.specs.declared.line_state.LineState.TheVariants as state
use Rattle.bench_item.specs.Lines.{Undialled, is_dial}
use Rattle.bench_line.specs.Dials.{states_of_dial, standing_as, redialled}
use Rattle.bench_line.specs.Line.{LineView, undialled}
use Rattle.bench_line.specs.Lines.{Past, StandFrom, AreLinesAfter, one_more}
use Rattle.bench_line.specs.Talk.{Meaning}
use Rattle.bench_line.proofs.DeedLemmas.{undials}

-- The lines before a place stand as they did; the others are still to come.
pub record IsRedialled (peer generation : ℕ) (states : List LineState) (start now : List LineView) (place used : ℕ) : Type 0 where
  pub within : used ≤ length states
  pub whole : redialled peer generation states start ≡ take place now ++ redialled peer generation (drop used states) (drop place now)

-- all lines stand for the end of a dial
from-undialled : (m : Meaning) (first peer generation : ℕ) (ls : List LineView) (pasts : List Past) → StandFrom m first ls pasts → StandFrom m first (map (undialled peer generation) ls) (map (one_more (Undialled peer generation)) pasts)
from-undialled m first peer generation [] [] s = tt
from-undialled m first peer generation [] (past ∷ pasts) s = elim s [ ]
from-undialled m first peer generation (x ∷ ls) [] s = elim s [ ]
from-undialled m first peer generation (x ∷ ls) (past ∷ pasts) s = (undials m first x past.opening past.happened peer generation s.0, from-undialled m (first + 1) peer generation ls pasts s.1)

pub stands-undialled : (m : Meaning) (peer generation : ℕ) (ls : List LineView) (pasts : List Past) → AreLinesAfter m ls pasts → AreLinesAfter m (map (undialled peer generation) ls) (map (one_more (Undialled peer generation)) pasts)
stands-undialled m peer generation ls pasts s = record { each = from-undialled m 1 peer generation ls pasts s.each }

redialled-yes : (peer generation : ℕ) (states : List LineState) (x : LineView) (ls : List LineView) → is_dial peer generation x.opening ≡ true → redialled peer generation states (x ∷ ls) ≡ standing_as states x ∷ redialled peer generation (drop 1 states) ls
redialled-yes peer generation states x ls e = ap (λ (b : Bool). if b then standing_as states x ∷ redialled peer generation (drop 1 states) ls else x ∷ redialled peer generation states ls) e

redialled-no : (peer generation : ℕ) (states : List LineState) (x : LineView) (ls : List LineView) → is_dial peer generation x.opening ≡ false → redialled peer generation states (x ∷ ls) ≡ x ∷ redialled peer generation states ls
redialled-no peer generation states x ls e = ap (λ (b : Bool). if b then standing_as states x ∷ redialled peer generation (drop 1 states) ls else x ∷ redialled peer generation states ls) e

-- how many items of each line were lifted
pub counts-undialled : (peer generation : ℕ) (ls : List LineView) → map (λ l. l.lifted) (map (undialled peer generation) ls) ≡ map (λ l. l.lifted) ls
counts-undialled peer generation [] = refl
counts-undialled peer generation (l ∷ ls) = by (is_dial peer generation l.opening) (counts-undialled peer generation ls)
  where
    by : (b : Bool) → map (λ x. x.lifted) (map (undialled peer generation) ls) ≡ map (λ x. x.lifted) ls
        → (if b then record l { state = state.Closed } else l).lifted ∷ map (λ x. x.lifted) (map (undialled peer generation) ls) ≡ l.lifted ∷ map (λ x. x.lifted) ls
    by true h = ap (λ (cs : List ℕ). l.lifted ∷ cs) h
    by false h = ap (λ (cs : List ℕ). l.lifted ∷ cs) h

-- the lines of a dial stand again as they did
pub redialled-undialled : (peer generation : ℕ) (ls : List LineView) → redialled peer generation (states_of_dial peer generation ls) (map (undialled peer generation) ls) ≡ ls
redialled-undialled peer generation [] = refl
redialled-undialled peer generation (l ∷ ls) = by (is_dial peer generation l.opening) refl (redialled-undialled peer generation ls)
  where
    states : List LineState
    states = states_of_dial peer generation ls

    others : List LineView
    others = map (undialled peer generation) ls

    by : (b : Bool) → is_dial peer generation l.opening ≡ b → redialled peer generation states others ≡ ls
        → redialled peer generation ((if is_dial peer generation l.opening then l.state ∷ [] else []) ++ states) ((if is_dial peer generation l.opening then record l { state = state.Closed } else l) ∷ others) ≡ l ∷ ls
    by true e h =
        ap (λ (b : Bool). redialled peer generation ((if b then l.state ∷ [] else []) ++ states) ((if b then record l { state = state.Closed } else l) ∷ others)) e
        ∙ redialled-yes peer generation (l.state ∷ states) (record l { state = state.Closed }) others e ∙ ap (λ (xs : List LineView). l ∷ xs) h
    by false e h =
        ap (λ (b : Bool). redialled peer generation ((if b then l.state ∷ [] else []) ++ states) ((if b then record l { state = state.Closed } else l) ∷ others)) e
        ∙ redialled-no peer generation states l others e ∙ ap (λ (xs : List LineView). l ∷ xs) h

mapped-set : (f : LineView → LineView) (start : List LineView) (i : ℕ) (x : LineView) → i < length start → x ≡ get_or (map f (take i start) ++ drop i start) i x → set (map f (take i start) ++ drop i start) i (f x) ≡ map f (take (suc i) start) ++ drop (suc i) start
mapped-set f [] i x h e = absurd (omega (arith, h))
mapped-set f (y ∷ ys) zero x h e = ap (λ (z : LineView). f z ∷ ys) e
mapped-set f (y ∷ ys) (suc i) x h e = ap (λ (zs : List LineView). f y ∷ zs) (mapped-set f ys i x (omega (arith, h)) e)

-- one line more was changed in a loop over all
pub mapped-next : (f : LineView → LineView) (start now : List LineView) (i : ℕ) (x new : LineView) → i < length start → now ≡ map f (take i start) ++ drop i start → x ≡ get_or now i x → new ≡ f x
    → set now i new ≡ map f (take (i + 1) start) ++ drop (i + 1) start
mapped-next f start now i x new h n e k =
    let is : x ≡ get_or (map f (take i start) ++ drop i start) i x = e ∙ ap (λ (ys : List LineView). get_or ys i x) n in
    let one : suc i ≡ i + 1 = omega arith in
    ap (λ (ys : List LineView). set ys i new) n ∙ ap (set (map f (take i start) ++ drop i start) i) k ∙ mapped-set f start i x h is ∙ ap (λ (j : ℕ). map f (take j start) ++ drop j start) one

-- all lines were changed through their slice
pub written : (f : LineView → LineView) (items slice new : List LineView) (len : ℕ) → slice ≡ items → new ≡ map f slice → len ≡ length items → take len (new ++ drop (length new) items) ≡ map f items
written f items slice new len s n l =
    let e : new ≡ map f items = n ∙ ap (map f) s in
    let long : length new ≡ len = ap length e ∙ length-map items f ∙ sym l in
    take_at new (drop (length new) items) len long ∙ e
