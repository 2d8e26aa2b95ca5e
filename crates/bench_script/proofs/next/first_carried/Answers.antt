use Rattle.std.proofs.Common.{◌∷◌, [], ◌∙◌, ap, sym}
use Rattle.std.specs.Prelude.{find}
use Rattle.bench_item.specs.declared.step.Step.{Step}
use Rattle.bench_script.specs.Settled.{is_free}
use Rattle.bench_script.proofs.NextLemmas.{carried_1, carried_2, carried_3, carried_4}
use Rattle.bench_script.proofs.next.first_carried.Goals as goal

-- a line's
pub returns-then-is_some : goal.returns-then-is_some
returns-then-is_some c =
    carried_1 (is_free c.args.core.now) c.args.carry c.args.lines c.first_of-line.result c.first_of-line.ensures (sym c.is_some.ensures ∙ c.if-is_some.true)

-- a shard's
pub returns-then-is_some-2 : goal.returns-then-is_some-2
returns-then-is_some-2 c =
    carried_2 (is_free c.args.core.now) c.args.carry c.args.lines c.first_of-line.result c.first_of-shard.result
    c.first_of-line.ensures (sym c.is_some.ensures ∙ c.if-is_some.false) c.first_of-shard.ensures (sym c.is_some-2.ensures ∙ c.if-is_some-2.true)

-- a desk's
pub returns-then-is_some-3 : goal.returns-then-is_some-3
returns-then-is_some-3 c =
    carried_3 (is_free c.args.core.now) c.args.carry c.args.lines c.first_of-line.result c.first_of-shard.result c.first_of-desk.result
    c.first_of-line.ensures (sym c.is_some.ensures ∙ c.if-is_some.false) c.first_of-shard.ensures (sym c.is_some-2.ensures ∙ c.if-is_some-2.false)
    c.first_of-desk.ensures (sym c.is_some-3.ensures ∙ c.if-is_some-3.true)

-- or the clock's
pub returns : goal.returns
returns c =
    carried_4 (is_free c.args.core.now) c.args.carry c.args.lines c.first_of-line.result c.first_of-shard.result c.first_of-desk.result c.if_free.result
    c.first_of-line.ensures (sym c.is_some.ensures ∙ c.if-is_some.false) c.first_of-shard.ensures (sym c.is_some-2.ensures ∙ c.if-is_some-2.false)
    c.first_of-desk.ensures (sym c.is_some-3.ensures ∙ c.if-is_some-3.false)
    (c.if_free.ensures ∙ ap (λ (s : Step). find (is_free c.args.core.now) (s ∷ [])) c.carried.ensures)
