use Rattle.std.proofs.Common.{◌≡◌, [], take}
use Rattle.std.specs.List.{flat_map}
use Rattle.tab_step.specs.Bind.{lacking_in}
use Rattle.bench_open.proofs.unbound.first_in_table.Given as goal

abbrev pub invariant-loop-row : goal.invariant-loop-row
invariant-loop-row l = flat_map (lacking_in l.laws l.table) (take l.row-index l.row-items) ≡ []
