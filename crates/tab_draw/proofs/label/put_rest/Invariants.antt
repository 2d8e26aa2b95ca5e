use Rattle.std.proofs.Common.{◌≡◌, ◌++◌, take}
use Rattle.std.specs.List.{flat_map}
use Rattle.tab_draw.specs.Labels.{and_guard}
use Rattle.tab_draw.proofs.label.put_rest.Given as goal

-- the guards so far are put
abbrev pub invariant-loop-guard : goal.invariant-loop-guard
invariant-loop-guard l = l.out.items ≡ l.initial.out.items ++ flat_map (and_guard l.names) (take l.guard-index l.guards)
