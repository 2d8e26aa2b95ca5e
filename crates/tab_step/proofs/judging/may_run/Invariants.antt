use Rattle.std.proofs.Common.{◌≡◌, ◌↔◌, drop}
use Rattle.tab_law.specs.Books.{ActPermits}
use Rattle.tab_step.specs.Moves.{Runs}
use Rattle.tab_step.proofs.judging.may_run.Given as goal

-- the whole may be run where the rest may
abbrev pub invariant-loop-i : goal.invariant-loop-i
invariant-loop-i l = record {
  facts : l.scene.facts ≡ l.facts;
  same : Runs (ActPermits l.book) l.facts l.actions l.before l.chain l.deeds ↔ Runs (ActPermits l.book) l.facts (drop l.i l.actions) l.scene.regs (drop l.i l.chain) l.rest;
}
