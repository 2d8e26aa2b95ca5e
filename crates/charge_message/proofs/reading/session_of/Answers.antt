use Rattle.std.proofs.Common.{sym}
use Rattle.charge_message.proofs.SessionLemmas.{named, unnamed}
use Rattle.charge_message.proofs.reading.session_of.Goals as goal

pub returns-in-Ok : goal.returns-in-Ok
returns-in-Ok c = named c.args.octets.now c.in-Ok.session.now (sym c.if-is_empty.ensures) c.in-Ok.ensures.cases.0 c.in-Ok.ensures.cases.1

pub returns-in-Err : goal.returns-in-Err
returns-in-Err c = unnamed c.args.octets.now c.in-Err.ensures.cases.0
