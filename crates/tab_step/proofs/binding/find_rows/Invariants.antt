use Rattle.std.proofs.Common.{take}
use Rattle.std.specs.List.{AllZip}
use Rattle.tab_step.specs.Bind.{IsPlacesOf}
use Rattle.tab_step.proofs.binding.find_rows.Given as goal

abbrev pub invariant-loop-row : goal.invariant-loop-row
invariant-loop-row l = AllZip (IsPlacesOf l.book l.table) (take l.row-index l.row-items) l.places.items
