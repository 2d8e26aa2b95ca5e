use Rattle.std.proofs.Common.{◌≡◌, ◌++◌, map}
use Rattle.std.specs.List.{range_with_len}
use Rattle.tab_role.specs.Entries.{kept}
use Rattle.tab_role.specs.declared.step.TheConstants.{COUNT}
use Rattle.tab_role.proofs.step.keep_services.Given as goal

abbrev pub invariant-loop-i : goal.invariant-loop-i
invariant-loop-i l = l.changes.items ≡ l.initial.changes.items ++ map kept (range_with_len COUNT l.i)
