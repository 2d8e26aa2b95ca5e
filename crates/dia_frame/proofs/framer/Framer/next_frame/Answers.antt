use Rattle.std.proofs.Common.{rules, arith}
use Rattle.std.proofs.lemmas.Grind.{common_steps}
use Rattle.dia_frame.proofs.framer.Framer.next_frame.Goals as goal

pub returns-clause-oldest : goal.returns-clause-oldest
returns-clause-oldest c = search rules

pub returns-clause-handed : goal.returns-clause-handed
returns-clause-handed c = grind (arith, common_steps)
