use Rattle.std.proofs.Common.{rules}
use Rattle.dia_write.proofs.write.credit_control_answer_fields.Goals as goal

pub returns : goal.returns
returns c = search rules
