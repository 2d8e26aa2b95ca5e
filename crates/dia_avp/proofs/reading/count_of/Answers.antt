use Rattle.std.proofs.Common.{arith}
use Rattle.dia_avp.specs.View.{seen}
use Rattle.dia_avp.proofs.ReadLaws.{Counted-more}
use Rattle.dia_avp.proofs.reading.count_of.Goals as goal

pub loop-rest-preserved : goal.loop-rest-preserved
loop-rest-preserved c =
    Counted-more c.args.octets.now c.args.depth c.loop-rest.count c.loop-rest.rest.now (seen c.in-Ok.field-0-0) c.in-Ok.after.now c.loop-rest.invariant (omega arith) c.in-Ok.ensures.avp
