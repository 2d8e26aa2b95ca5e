use Rattle.bench_line.proofs.DialLemmas.{IsRedialled}
use Rattle.bench_line.proofs.back.redial.Given as goal

abbrev pub invariant-loop-line : goal.invariant-loop-line
invariant-loop-line l = IsRedialled l.peer l.generation l.states l.initial.lines l.lines l.line-index l.used
