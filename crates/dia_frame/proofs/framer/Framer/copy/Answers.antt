use Rattle.std.proofs.Common.{arith}
use Rattle.std.proofs.lemmas.Grind.{common_steps}
use Rattle.dia_frame.proofs.framer.Framer.copy.Goals as goal

pub returns : goal.returns
returns c = grind (arith, common_steps)
