use Rattle.std.proofs.Common.{arith}
use Rattle.std.proofs.lemmas.Grind.{common_steps}
use Rattle.sess_dir.proofs.directory.Directory.drop_last.Goals as goal

pub returns : goal.returns
returns c = grind (arith, common_steps)
