use Rattle.std.proofs.Common.{◌≡◌, ◌∷◌, [], ◌∙◌, ap, arith, sym}
use Rattle.std.specs.Prelude.{find}
use Rattle.bench_item.specs.declared.step.Step.{Step}
use Rattle.bench_script.specs.Settled.{carried, is_free, source_of}
use Rattle.bench_script.proofs.NextLemmas.{firsts_here, firsts_none, firsts_past}
use Rattle.bench_script.proofs.next.first_of.Goals as goal

-- it is the next number's
pub returns-then-is_some : goal.returns-then-is_some
returns-then-is_some c =
    let p = is_free c.args.core.now in
    let is : c.if_free-step.result ≡ find p (carried c.args.carry (source_of c.args.sort c.numbers.number) ∷ []) =
    c.if_free-step.ensures ∙ ap (λ (s : Step). find p (s ∷ [])) (c.carried.ensures ∙ ap (carried c.args.carry) c.source_of.ensures) in
    firsts_here p c.args.carry c.args.sort c.numbers.number c.numbers.left c.if_free-step.result (omega arith) is (sym c.is_some.ensures ∙ c.if-is_some.true)
    ∙ sym c.numbers.invariant.0

-- or behind it
pub numbers-preserved : goal.numbers-preserved
numbers-preserved c =
    let p = is_free c.args.core.now in
    let is : c.if_free-step.result ≡ find p (carried c.args.carry (source_of c.args.sort c.numbers.number) ∷ []) =
    c.if_free-step.ensures ∙ ap (λ (s : Step). find p (s ∷ [])) (c.carried.ensures ∙ ap (carried c.args.carry) c.source_of.ensures) in (
      c.numbers.invariant.0
          ∙ firsts_past p c.args.carry c.args.sort c.numbers.number c.numbers.left c.if_free-step.result (omega arith) is (sym c.is_some.ensures ∙ c.if-is_some.false),
      omega arith,
    )

-- no number is left
pub returns : goal.returns
returns c =
    sym (c.numbers.invariant.0 ∙ firsts_none (is_free c.args.core.now) c.args.carry c.args.sort c.numbers.number c.numbers.left (omega arith))
