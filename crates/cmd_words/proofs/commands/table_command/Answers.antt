use Rattle.std.proofs.Common.{ap, ◌∙◌}
use Rattle.std.proofs.lemmas.Result.{IfOk-weaker}
use Rattle.clap.specs.Words.{App, with_subcommand}
use Rattle.cmd_words.specs.Words.{asm_app, draw_app, list_app}
use Rattle.cmd_words.proofs.commands.table_command.Goals as goal

pub returns : goal.returns
returns c =
    let drawing = ap (λ (a : App). with_subcommand a draw_app.top) c.in_ok-command.ensures in
    let assembling = ap (λ (a : App). with_subcommand a asm_app.top) (c.in_ok-command-2.ensures ∙ drawing) in
    let listing = ap (λ (a : App). with_subcommand a list_app.top) (c.in_ok-command-3.ensures ∙ assembling) in
    IfOk-weaker c.with_file_command-3.result _ _ (λ r is. is ∙ listing) c.with_file_command-3.ensures
