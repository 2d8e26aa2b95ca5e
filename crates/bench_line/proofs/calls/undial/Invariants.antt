use Rattle.std.proofs.Common.{◌≡◌, ◌++◌, map, take, drop}
use Rattle.bench_line.specs.Line.{undialled}
use Rattle.bench_line.proofs.calls.undial.Given as goal

abbrev pub invariant-loop-line : goal.invariant-loop-line
invariant-loop-line l = l.lines ≡ map (undialled l.peer l.generation) (take l.line-index l.initial.lines) ++ drop l.line-index l.initial.lines
