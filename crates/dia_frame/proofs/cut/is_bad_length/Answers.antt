use Rattle.std.proofs.Common.{rules}
use Rattle.dia_frame.proofs.cut.is_bad_length.Goals as goal

pub returns-else-len-ne0 : goal.returns-else-len-ne0
returns-else-len-ne0 c = search rules
