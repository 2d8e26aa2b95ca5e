use Rattle.dia_avp.specs.View.{seen}
use Rattle.dia_avp.proofs.Encoded.{AvpThen-encoded}
use Rattle.dia_avp.proofs.writing.write_avp.Goals as goal

pub returns-clause-means : goal.returns-clause-means
returns-clause-means c = λ some rest. AvpThen-encoded (seen c.args.avp.now) rest c.put_avp.ensures.numbers (c.is_long.ensures.short c.if-is_long.false) some
