use Rattle.dia_command.proofs.AgainLaws.{written_again}
use Rattle.dia_command.proofs.laws.written_again.Goals as goal

pub returns : goal.returns
returns c = written_again
