use Rattle.tab_law.specs.Books.{ActPermits}
use Rattle.tab_step.proofs.MoveLemmas.{Runs-length, Runs-rest, Runs-none}
use Rattle.tab_step.proofs.judging.may_run.Goals as goal

pub returns-then-chain-actions : goal.returns-then-chain-actions
returns-then-chain-actions c = (λ t. cc, λ r. absurd (c.if-chain-actions.true (Runs-length (ActPermits c.args.book.now) _ _ _ _ _ r)))

pub returns-in-None : goal.returns-in-None
returns-in-None c =
    let at = rw c.acts.ensures at c.at.ensures in (
      λ t. cc,
      λ r. absurd
          (Runs-none c.args.book.now c.args.facts.now c.args.actions.now c.args.chain.now c.loop-i.i c.loop-i.scene.regs c.at.result.now c.loop-i.rest.now c.loop-i-test.true c.if-chain-actions.false at
          (λ own behind p. c.in-None.ensures.none own behind (rw (← c.loop-i.invariant.facts) at p))
          (c.loop-i.invariant.same.0 r)),
    )

pub loop-i-preserved : goal.loop-i-preserved
loop-i-preserved c =
    let at = rw c.acts.ensures at c.at.ensures in
    let some = c.in-Some.ensures.some in
    let on = Runs-rest c.args.book.now c.args.facts.now c.args.actions.now c.args.chain.now c.loop-i.i c.loop-i.scene.regs c.at.result.now some.0 c.loop-i.rest.now c.in-Some.behind.now c.loop-i-test.true c.if-chain-actions.false at
    (rw (← c.loop-i.invariant.facts) some.1) some.2 in
    record {
      facts = c.loop-i.invariant.facts;
      same = (λ r. on.0 (c.loop-i.invariant.same.0 r), λ r. c.loop-i.invariant.same.1 (on.1 r));
    }
