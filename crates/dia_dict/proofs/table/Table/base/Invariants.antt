use Rattle.std.proofs.Common.{◌≡◌, map, take}
use Rattle.dia_dict.specs.Base.{of_line}
use Rattle.dia_dict.proofs.table.Table.base.Given as goal

abbrev pub invariant-loop-code : goal.invariant-loop-code
invariant-loop-code l = l.table ≡ map of_line (take l.code-index l.code-items)
