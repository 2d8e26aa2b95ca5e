use Rattle.std.proofs.Common.{arith}
use Rattle.std.proofs.lemmas.Grind.{common_steps}
use Rattle.log_text.proofs.entries.put_stale.Goals as goal

pub returns : goal.returns
returns c = grind (arith, common_steps)
