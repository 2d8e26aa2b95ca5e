use Rattle.std.proofs.Common.{rules}
use Rattle.dia_dict.proofs.base.lines.Goals as goal

pub returns : goal.returns
returns c = search rules
