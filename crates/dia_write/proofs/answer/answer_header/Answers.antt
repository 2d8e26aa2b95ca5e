use Rattle.std.proofs.Common.{rules}
use Rattle.dia_write.proofs.answer.answer_header.Goals as goal

pub returns : goal.returns
returns c = search rules
