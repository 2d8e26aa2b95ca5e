use Rattle.dia_avp.specs.View.{seen}
use Rattle.dia_avp.proofs.ListLaws.{next_first, next_none}
use Rattle.dia_avp.proofs.group.AvpsIn.next.Goals as goal

pub returns-in-Ok : goal.returns-in-Ok
returns-in-Ok c = λ list all. next_first c.args.self.now.octets.now (seen c.in-Ok.avp) c.in-Ok.after.now list c.in-Ok.ensures.avp all

pub returns-in-Err : goal.returns-in-Err
returns-in-Err c = λ list all. next_none c.args.self.now.octets.now c.in-Err.field-0 list c.in-Err.ensures.broken all
