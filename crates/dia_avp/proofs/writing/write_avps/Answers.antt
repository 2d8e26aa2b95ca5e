use Rattle.std.proofs.Common.{rules}
use Rattle.dia_avp.proofs.Encoded.{Avps-encoding}
use Rattle.dia_avp.proofs.writing.write_avps.Goals as goal

pub returns-clause-means : goal.returns-clause-means
returns-clause-means c = rw (← c.as_slice-avps.ensures) (Avps-encoding c.as_slice-avps.result.now c.put_avps.ensures.numbers (c.has_long.ensures.short c.if-has_long.false))

pub returns-clause-read_back : goal.returns-clause-read_back
returns-clause-read_back c = λ some few depth shallow. (shallow, few, returns-clause-means c some)

pub returns-clause-ok : goal.returns-clause-ok
returns-clause-ok c = search rules
