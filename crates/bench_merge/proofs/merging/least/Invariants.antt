use Rattle.bench_merge.specs.Heads.{UpTo}
use Rattle.bench_merge.proofs.merging.least.Given as goal

abbrev pub invariant-loop-part : goal.invariant-loop-part
invariant-loop-part l = UpTo l.parts l.heads l.part l.found
