-- A call is refused where there is no such line, or else by the line.
use Rattle.std.proofs.Common.{◌≡◌, ℕ, List, get_or, Some, None, ap, ◌∙◌}
use Rattle.bench_item.specs.declared.step.StepFault.TheVariants.{Unknown}
use Rattle.bench_line.specs.declared.places.Call.{Call}
use Rattle.bench_line.specs.declared.places.Call.TheVariants.{Dialled, Came, Lost}
use Rattle.bench_line.specs.Line.{LineView}
use Rattle.bench_line.specs.Lines.{IsPlace, line_at, refusal_by, dialled_refused, came_refused, lost_refused}
use Rattle.bench_line.specs.Refusals.{refused_by, refusal_of}
use Rattle.bench_line.proofs.ChangeLemmas.{line_at-place}
use Rattle.bench_line.proofs.CallLemmas.{at_place}

-- no line of that number
pub refusal-none : (call : Call) (ls : List LineView) (line : ℕ) → line_at ls line ≡ None → refusal_of call ls line ≡ Some Unknown
refusal-none Dialled ls line e = ap (refusal_by (λ l. dialled_refused l l.state)) e
refusal-none Came ls line e = ap (refusal_by (λ l. came_refused l l.state)) e
refusal-none Lost ls line e = ap (refusal_by (λ l. lost_refused l l.state)) e

by_line : (call : Call) (ls : List LineView) (line : ℕ) (l : LineView) → line_at ls line ≡ Some l → refusal_of call ls line ≡ refused_by call l
by_line Dialled ls line l e = ap (refusal_by (λ x. dialled_refused x x.state)) e
by_line Came ls line l e = ap (refusal_by (λ x. came_refused x x.state)) e
by_line Lost ls line l e = ap (refusal_by (λ x. lost_refused x x.state)) e

-- the line at a place
pub refusal-place : (call : Call) (ls : List LineView) (line place : ℕ) (l : LineView) → IsPlace ls line place → l ≡ get_or ls place l → refusal_of call ls line ≡ refused_by call l
refusal-place call ls line place l p e = by_line call ls line l (line_at-place ls line place p.some p.is ∙ at_place ls line place l p e)
