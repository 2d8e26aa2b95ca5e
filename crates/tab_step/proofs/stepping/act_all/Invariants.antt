use Rattle.std.proofs.Common.{◌≡◌, ◌≤◌, ◌*◌, take, length}
use Rattle.tab_law.specs.Books.{ActPermits}
use Rattle.tab_step.specs.Moves.{Runs, end_of}
use Rattle.tab_step.proofs.stepping.act_all.Given as goal

abbrev pub invariant-loop-place : goal.invariant-loop-place
invariant-loop-place g l = record {
  runs : Runs (ActPermits l.registry.book) l.fn.scene.facts (take l.place-index l.actions) l.fn.scene.regs l.room.chain l.room.deeds;
  end : l.scene.regs ≡ end_of l.fn.scene.regs l.room.chain;
  facts : l.scene.facts ≡ l.fn.scene.facts;
  few : length l.room.deeds ≤ 4 * l.place-index;
  each : length l.room.chain ≡ l.place-index;
}
