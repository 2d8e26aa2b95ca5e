use Rattle.std.proofs.Common.{rules}
use Rattle.dia_avp.proofs.field.u64_of.Goals as goal

pub returns-clause-value : goal.returns-clause-value
returns-clause-value c = search rules
