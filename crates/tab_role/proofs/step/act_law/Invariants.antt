use Rattle.std.proofs.Common.{◌≡◌, take}
use Rattle.std.specs.List.{flat_map}
use Rattle.tab_role.specs.Entries.{changes_of}
use Rattle.tab_role.proofs.step.act_law.Given as goal

abbrev pub invariant-loop-step : goal.invariant-loop-step
invariant-loop-step l = l.changes.items ≡ flat_map changes_of (take l.step-index l.steps)
