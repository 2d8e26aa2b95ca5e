use Rattle.std.proofs.Common.{ap₂, ◌∙◌}
use Rattle.std.proofs.lemmas.Result.{IfOk-weaker}
use Rattle.clap.specs.Words.{App, with_subcommand}
use Rattle.cmd_words.proofs.commands.debugging_command.Goals as goal

pub returns : goal.returns
returns c =
    let below = ap₂ (λ (a b : App). with_subcommand a b.top) c.in_ok-command.ensures c.in_ok-debug.ensures.app in
    IfOk-weaker c.with_command.result _ _ (λ r is. is ∙ below) c.with_command.ensures
