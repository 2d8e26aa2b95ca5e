use Rattle.std.proofs.Common.{ap₂, ◌∙◌}
use Rattle.std.proofs.lemmas.Result.{IfOk-weaker}
use Rattle.clap.specs.Words.{App, with_subcommand}
use Rattle.cmd_words.proofs.commands.walking_command.Goals as goal

pub returns : goal.returns
returns c =
    let reading = ap₂ (λ (a b : App). with_subcommand a b.top) c.top.ensures c.in_ok-read.ensures.app in
    let walking = ap₂ (λ (a b : App). with_subcommand a b.top) (c.in_ok-command.ensures ∙ reading) c.in_ok-walk.ensures.app in
    IfOk-weaker c.with_command-2.result _ _ (λ r is. is ∙ walking) c.with_command-2.ensures
