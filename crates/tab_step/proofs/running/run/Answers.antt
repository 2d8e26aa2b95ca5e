use Rattle.std.proofs.Common.{[], refl}
use Rattle.std.proofs.lemmas.List.{take_more, take_all}
use Rattle.tab_law.specs.Books.{NamedPermits}
use Rattle.tab_step.proofs.RunLemmas.{AreSteps-more, AreSteps-run, last_state-more}
use Rattle.tab_step.proofs.running.run.Goals as goal

pub loop-event-preserved : goal.loop-event-preserved
loop-event-preserved g c =
    let pushed = c.in_ok-push.ensures.items in
    record {
      steps =
          rw (pushed, take_more c.args.events.now c.loop-event.event-index (record { kind = 0; facts = [] }) c.loop-event-test.true)
          (AreSteps-more (NamedPermits c.args.registry.now.book) c.args.bound.now.table c.args.registry.now.book c.args.first.now _ _ _ _ c.loop-event.invariant.steps (rw (← c.loop-event.invariant.now) c.step-stepped.ensures));
      now = rw (pushed, last_state-more) refl;
    }

pub returns-clause-run : goal.returns-clause-run
returns-clause-run g c =
    let whole = take_all c.loop-event.event-index c.args.events.now c.loop-event-test.false in
    AreSteps-run c.args.bound.now.table c.args.registry.now.book c.args.first.now c.args.events.now _ (rw whole at c.loop-event.invariant.steps)
