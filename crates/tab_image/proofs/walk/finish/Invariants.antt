use Rattle.std.proofs.Common.{◌≡◌, ◌-◌, length}
use Rattle.tab_image.specs.Walks.{IsAt}
use Rattle.tab_image.proofs.walk.finish.Given as goal

abbrev pub invariant-loop-ending : goal.invariant-loop-ending
invariant-loop-ending g l = record {
  on_way : IsAt l.registry.book l.program l.scene l.walk;
  begin : l.walk.begin ≡ l.fn.walk.begin;
}

abbrev pub decreases-loop-ending : goal.decreases-loop-ending
decreases-loop-ending g l = length l.program.image.code - l.walk.at
