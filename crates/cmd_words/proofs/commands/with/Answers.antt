use Rattle.std.proofs.lemmas.Result.{IfOk-weaker}
use Rattle.cmd_words.proofs.commands.with.Goals as goal

pub returns-clause-app : goal.returns-clause-app
returns-clause-app c = IfOk-weaker c.arg.result _ _ (λ r added. added.shape c.requires.arg) c.arg.ensures
