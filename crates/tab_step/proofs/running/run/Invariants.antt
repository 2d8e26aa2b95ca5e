use Rattle.std.proofs.Common.{◌≡◌, take}
use Rattle.tab_law.specs.Books.{NamedPermits}
use Rattle.tab_step.specs.Runs.{AreSteps}
use Rattle.tab_step.proofs.RunLemmas.{last_state}
use Rattle.tab_step.proofs.running.run.Given as goal

abbrev pub invariant-loop-event : goal.invariant-loop-event
invariant-loop-event g l = record {
  steps : AreSteps (NamedPermits l.registry.book) l.bound.table l.registry.book l.fn.first (take l.event-index l.events) l.steps.items;
  now : l.now ≡ last_state l.fn.first l.steps.items;
}
