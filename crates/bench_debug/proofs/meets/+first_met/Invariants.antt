use Rattle.std.proofs.Common.{length}
use Rattle.bench_debug.proofs.meets.+first_met.Given as goal

abbrev pub decreases-first_met : goal.decreases-first_met
decreases-first_met l = length l.set.now
