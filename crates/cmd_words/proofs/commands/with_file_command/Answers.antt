use Rattle.std.proofs.Common.{ap, ◌∙◌}
use Rattle.std.proofs.lemmas.Result.{IfOk-weaker}
use Rattle.clap.specs.Words.{App, app_of, new_rule, with_rule, with_subcommand}
use Rattle.cmd_words.proofs.commands.with_file_command.Goals as goal

pub returns : goal.returns
returns c =
    let named = ap (λ (a : App). with_rule a (new_rule c.args.file.0.now)) c.bare.ensures.app in
    let below = ap (λ (a : App). with_subcommand (app_of c.args.command) a.top) (c.in_ok-subcommand.ensures.app ∙ named) in
    IfOk-weaker c.with_command.result _ _ (λ r is. is ∙ below) c.with_command.ensures
