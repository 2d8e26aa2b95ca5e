use Rattle.dia_command.proofs.SameLaws.{same}
use Rattle.dia_command.proofs.laws.same_command.Goals as goal

pub returns : goal.returns
returns c = same
