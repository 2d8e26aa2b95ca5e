use Rattle.dia_avp.specs.View.{seen}
use Rattle.dia_avp.proofs.ReadLaws.{Halfway-more, Halfway-end}
use Rattle.dia_avp.proofs.reading.list_of.Goals as goal

pub loop-avp-preserved : goal.loop-avp-preserved
loop-avp-preserved c =
    rw (c.in_ok-push.ensures.ok, c.in_ok-to_avp.ensures.copy)
    (Halfway-more c.args.octets.now c.loop-avp.list c.loop-avp.rest.now (seen c.in-Ok.avp) c.in-Ok.after.now c.loop-avp.invariant c.in-Ok.ensures.avp)

pub returns : goal.returns
returns c = Halfway-end c.args.octets.now c.loop-avp.list c.loop-avp.rest.now c.in_default.field-0 c.loop-avp.invariant c.in_default.ensures.broken
