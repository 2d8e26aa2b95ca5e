use Rattle.std.proofs.Common.{◌≡◌, true, take}
use Rattle.std.specs.List.{list_all}
use Rattle.tab_law.specs.Books.{guard_answer}
use Rattle.tab_step.proofs.taking.all_yes.Given as goal

abbrev pub invariant-loop-place : goal.invariant-loop-place
invariant-loop-place g l = list_all (guard_answer l.book l.scene) (take l.place-index l.guards) ≡ true
