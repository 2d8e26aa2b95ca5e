use Rattle.std.proofs.Common.{rules}
use Rattle.dia_avp.proofs.field.text_of.Goals as goal

pub returns-clause-refused : goal.returns-clause-refused
returns-clause-refused c = search rules
