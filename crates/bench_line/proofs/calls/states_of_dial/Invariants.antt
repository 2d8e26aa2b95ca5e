use Rattle.std.proofs.Common.{◌≡◌, take}
use Rattle.bench_line.specs.Dials.{states_of_dial}
use Rattle.bench_line.proofs.calls.states_of_dial.Given as goal

abbrev pub invariant-loop-line : goal.invariant-loop-line
invariant-loop-line l = l.states.items ≡ states_of_dial l.peer l.generation (take l.line-index l.lines)
