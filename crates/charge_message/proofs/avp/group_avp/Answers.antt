use Rattle.charge_message.proofs.AvpLemmas.{short_enough}
use Rattle.charge_message.proofs.avp.group_avp.Goals as goal

pub put_avp-requires-clause-short : goal.put_avp-requires-clause-short
put_avp-requires-clause-short c = rw c.view-view.ensures (short_enough c.args.inner.now c.requires.vendor c.requires.short)
