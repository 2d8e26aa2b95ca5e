use Rattle.std.proofs.Common.{ap, ◌∙◌}
use Rattle.std.proofs.lemmas.Result.{IfOk-weaker}
use Rattle.clap.specs.Words.{app_of, with_rule}
use Rattle.cmd_words.proofs.commands.with_flag.Goals as goal

pub returns-clause-app : goal.returns-clause-app
returns-clause-app c = IfOk-weaker c.with.result _ _ (λ r is. is ∙ ap (with_rule (app_of c.args.command)) c.flag.ensures.rule) c.with.ensures.app
