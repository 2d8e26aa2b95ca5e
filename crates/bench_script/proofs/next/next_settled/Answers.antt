use Rattle.std.proofs.Common.{◌∙◌, ℕ, ap, sym}
use Rattle.std.specs.Prelude.{find}
use Rattle.bench_script.specs.Settled.{is_free, next_settled, settling_steps}
use Rattle.bench_script.proofs.NextLemmas.{settling_1, settling_2, settling_3}
use Rattle.bench_script.proofs.next.next_settled.Goals as goal

-- a drop
pub returns-then-is_some : goal.returns-then-is_some
unfolding next_settled
returns-then-is_some c =
    settling_1 (is_free c.args.core.now) c.line_count-lines.result c.first_carried-drop.result c.first_carried-drop.ensures (sym c.is_some.ensures ∙ c.if-is_some.true)
    ∙ ap (λ (n : ℕ). find (is_free c.args.core.now) (settling_steps n)) c.line_count-lines.ensures.count

-- a lift
pub returns-then-is_some-2 : goal.returns-then-is_some-2
unfolding next_settled
returns-then-is_some-2 c =
    settling_2 (is_free c.args.core.now) c.line_count-lines.result c.first_carried-drop.result c.first_carried-lift.result
    c.first_carried-drop.ensures (sym c.is_some.ensures ∙ c.if-is_some.false) c.first_carried-lift.ensures (sym c.is_some-2.ensures ∙ c.if-is_some-2.true)
    ∙ ap (λ (n : ℕ). find (is_free c.args.core.now) (settling_steps n)) c.line_count-lines.ensures.count

-- or a shard's work
pub returns : goal.returns
unfolding next_settled
returns c =
    settling_3 (is_free c.args.core.now) c.line_count-lines.result c.first_carried-drop.result c.first_carried-lift.result c.first_work.result
    c.first_carried-drop.ensures (sym c.is_some.ensures ∙ c.if-is_some.false) c.first_carried-lift.ensures (sym c.is_some-2.ensures ∙ c.if-is_some-2.false)
    c.first_work.ensures
    ∙ ap (λ (n : ℕ). find (is_free c.args.core.now) (settling_steps n)) c.line_count-lines.ensures.count
