use Rattle.bench_gather.proofs.ReplayLemmas.{Unwound}
use Rattle.bench_gather.proofs.unwind.unwind.Given as goal

abbrev pub invariant-loop-step : goal.invariant-loop-step
invariant-loop-step l = Unwound l.fn.core l.core l._step
