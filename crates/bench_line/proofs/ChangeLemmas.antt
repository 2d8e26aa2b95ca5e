-- A change of one line: what was put out, and how it is taken back.
use Rattle.std.proofs.Common.{◌≡◌, ℕ, zero, suc, ◌+◌, ◌-◌, Bool, true, false, List, [], ◌∷◌, ◌++◌, length, take, set, map, Some, refl, sym, ap, ◌∙◌, arith}
use Rattle.std.specs.Prelude.{slice_get, ◌==◌, if◌then◌else◌}
use Rattle.std.proofs.lemmas.List.{take_at, length-take, take_all}
use Rattle.bench_item.specs.declared.item.Item.{Item}
use Rattle.bench_item.specs.declared.item.LineItem.{LineItem}
use Rattle.bench_item.specs.declared.line_state.LineState.{LineState}
use Rattle.bench_line.specs.declared.line.Before.{Before}
use Rattle.bench_line.specs.declared.line.FramerBefore.TheVariants.{Same}
use Rattle.bench_line.specs.Before.{before_of, restored}
use Rattle.bench_line.specs.Line.{LineView, acknowledged, lost, delivered, is_shut, state_behind}
use Rattle.bench_line.specs.Lines.{IsPlace, line_at, put_out, with_line, with_line_at}
use Rattle.bench_line.specs.Talk.{Meaning}

get-set : (ls : List LineView) (k : ℕ) (l new : LineView) → slice_get ls k ≡ Some l → slice_get (set ls k new) k ≡ Some new
get-set [] k l new e = absurd cc
get-set (x ∷ ls) zero l new e = refl
get-set (x ∷ ls) (suc k) l new e = get-set ls k l new e

with-set : (ls : List LineView) (k : ℕ) (l new : LineView) (f : LineView → LineView) → slice_get ls k ≡ Some l → f new ≡ l → with_line_at k f (set ls k new) ≡ ls
with-set [] k l new f e r = absurd cc
with-set (x ∷ ls) zero l new f e r = let g : Some x ≡ Some l = e in let is : x ≡ l = cc in ap (λ (y : LineView). y ∷ ls) (r ∙ sym is)
with-set (x ∷ ls) (suc k) l new f e r = ap (λ (ys : List LineView). x ∷ ys) (with-set ls k l new f e r)

pub line_at-place : (ls : List LineView) (line place : ℕ) → (line == 0) ≡ false → place ≡ line - 1 → line_at ls line ≡ slice_get ls place
line_at-place ls line place z p = rw (z, p) refl

-- One line of the lines became another one.
pub record IsChanged (ls after : List LineView) (line : ℕ) (l new : LineView) : Type 0 where
  pub was : line_at ls line ≡ Some l
  pub is : line_at after line ≡ Some new
  pub back : (f : LineView → LineView) → f new ≡ l → with_line line f after ≡ ls

pub changed : (ls : List LineView) (line place : ℕ) (l new : LineView) → IsPlace ls line place → slice_get ls place ≡ Some l → IsChanged ls (set ls place new) line l new
changed ls line place l new p e = record {
  was = line_at-place ls line place p.some p.is ∙ e;
  is = line_at-place (set ls place new) line place p.some p.is ∙ get-set ls place l new e;
  back = λ f r.
      let one : with_line line f (set ls place new) ≡ with_line_at place f (set ls place new) = rw (p.some, p.is) refl in
      one ∙ with-set ls place l new f e r;
}

-- What is behind a line's first items and octets is taken back.
restored-more : (l : LineView) (x : LineState) (outbox : List Item) (sent : List ℕ) → take (length l.outbox) outbox ≡ l.outbox → take (length l.sent) sent ≡ l.sent
    → restored (before_of Same l) (record l { state = x; outbox = outbox; sent = sent }) ≡ l
restored-more l x outbox sent o s =
    let P : List Item → List ℕ → LineView = λ xs ys. record l { outbox = xs; sent = ys } in
    ap (λ (xs : List Item). P xs (take (length l.sent) sent)) o ∙ ap (P l.outbox) s

pub restored-acknowledged : (m : Meaning) (line : ℕ) (l : LineView) → restored (before_of Same l) (acknowledged m line l) ≡ l
restored-acknowledged m line l = restored-more l (acknowledged m line l).state (acknowledged m line l).outbox l.sent (take_at l.outbox _ (length l.outbox) refl) (take_all (length l.sent) l.sent (omega arith))

pub restored-lost : (m : Meaning) (line : ℕ) (l : LineView) → restored (before_of Same l) (lost m line l) ≡ l
restored-lost m line l = restored-more l (lost m line l).state (lost m line l).outbox l.sent (take_at l.outbox _ (length l.outbox) refl) (take_all (length l.sent) l.sent (omega arith))

pub restored-delivered : (m : Meaning) (item : LineItem) (l : LineView) → restored (before_of Same l) (delivered m item l) ≡ l
restored-delivered m item l = by (is_shut l.state)
  where
    by : (b : Bool) → restored (before_of Same l) (if b then l else record l { state = state_behind item l.state; sent = l.sent ++ m.octets_of item }) ≡ l
    by true = restored-more l l.state l.outbox l.sent (take_all (length l.outbox) l.outbox (omega arith)) (take_all (length l.sent) l.sent (omega arith))
    by false = restored-more l (state_behind item l.state) l.outbox (l.sent ++ m.octets_of item) (take_all (length l.outbox) l.outbox (omega arith)) (take_at l.sent (m.octets_of item) (length l.sent) refl)

-- how many items were put out
pub put_out-posted : (ls after : List LineView) (line : ℕ) (l new : LineView) (before : Before) → IsChanged ls after line l new → restored before new ≡ l → before.outbox ≡ length l.outbox
    → put_out after line ≡ put_out ls line + (length new.outbox - before.outbox)
put_out-posted ls after line l new before c r o =
    let short : length (take before.outbox new.outbox) ≡ length l.outbox = ap (λ (x : LineView). length x.outbox) r in
    let number : length new.outbox ≡ length l.outbox + (length new.outbox - before.outbox) = omega (arith, short, o, length-take before.outbox new.outbox) in
    rw (c.was, c.is) number

-- how many items of each line were lifted, where one line has another of the same count
counts-set : (ls : List LineView) (k : ℕ) (l new : LineView) → slice_get ls k ≡ Some l → new.lifted ≡ l.lifted → map (λ x. x.lifted) (set ls k new) ≡ map (λ x. x.lifted) ls
counts-set [] k l new e n = absurd cc
counts-set (x ∷ ls) zero l new e n =
    let g : Some x ≡ Some l = e in
    let is : x ≡ l = cc in
    ap (λ (c : ℕ). c ∷ map (λ (y : LineView). y.lifted) ls) (n ∙ ap (λ (y : LineView). y.lifted) (sym is))
counts-set (x ∷ ls) (suc k) l new e n = ap (λ (cs : List ℕ). x.lifted ∷ cs) (counts-set ls k l new e n)

-- A change that is taken back from what the line became left how many of its items were lifted.
pub lifted-same : (ls : List LineView) (line place : ℕ) (l new : LineView) (before : Before) → IsPlace ls line place → slice_get ls place ≡ Some l → restored before new ≡ l → map (λ x. x.lifted) (set ls place new) ≡ map (λ x. x.lifted) ls
lifted-same ls line place l new before p e r = counts-set ls place l new e (ap (λ (x : LineView). x.lifted) r)
