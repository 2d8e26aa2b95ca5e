use Rattle.std.proofs.Common.{length}
use Rattle.dia_avp.proofs.ReadLaws.{Halfway}
use Rattle.dia_avp.proofs.reading.list_of.Given as goal

abbrev pub invariant-loop-avp : goal.invariant-loop-avp
invariant-loop-avp l = Halfway l.octets l.list l.rest

abbrev pub decreases-loop-avp : goal.decreases-loop-avp
decreases-loop-avp l = length l.rest
