use Rattle.std.proofs.Common.{length}
use Rattle.bench_line.specs.Talk.{meaning}
use Rattle.bench_line.proofs.RoundLemmas.{SoFar}
use Rattle.bench_line.proofs.round.Round.of_frames.Given as goal

abbrev pub invariant-loop-frame : goal.invariant-loop-frame
invariant-loop-frame g l = SoFar (meaning g.T.Hears.heard g.T.Hears.turned g.T.Hears.octets_of l.rules) l.fn.at l.initial.framer l.framer l.round

abbrev pub decreases-loop-frame : goal.decreases-loop-frame
decreases-loop-frame g l = length l.framer.waiting
