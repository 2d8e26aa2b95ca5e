use Rattle.std.proofs.Common.{◌≡◌, [], map, take}
use Rattle.tab_step.specs.Bind.{lacking}
use Rattle.tab_step.specs.Moves.{name_at}
use Rattle.bench_open.proofs.unbound.first_lacking.Given as goal

abbrev pub invariant-loop-number : goal.invariant-loop-number
invariant-loop-number g l = lacking l.entries (map (name_at l.names) (take l.number-index l.numbers)) ≡ []
