use Rattle.std.proofs.Common.{length}
use Rattle.dia_avp.proofs.ReadLaws.{Counted}
use Rattle.dia_avp.proofs.reading.count_of.Given as goal

abbrev pub invariant-loop-rest : goal.invariant-loop-rest
invariant-loop-rest l = Counted l.octets l.depth l.count l.rest

abbrev pub decreases-loop-rest : goal.decreases-loop-rest
decreases-loop-rest l = length l.rest
