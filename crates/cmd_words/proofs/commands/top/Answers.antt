use Rattle.std.proofs.Common.{ap, true, ◌∙◌}
use Rattle.clap.specs.Simple.{App, app_of_fields, on_top}
use Rattle.clap.specs.declared.builder.command.Command.{Command}
use Rattle.clap.specs.declared.builder.command.Command.TheOpen.{Command-F}
use Rattle.cmd_words.proofs.commands.top.Goals as goal

-- two of its settings are not those of a new command
pub returns : goal.returns
returns c =
    ap (λ (f : Command-F Command). app_of_fields f) c.subcommand_required.ensures
    ∙ ap (λ (f : Command-F Command). on_top (λ s. record s { subcommand_required = true }) (app_of_fields f)) c.after_help.ensures
    ∙ ap (λ (f : Command-F Command). on_top (λ s. record s { subcommand_required = true }) (app_of_fields f)) c.about.ensures
    ∙ ap (λ (f : Command-F Command). on_top (λ s. record s { subcommand_required = true }) (app_of_fields f)) c.version.ensures
    ∙ ap (λ (a : App). on_top (λ s. record s { has_version = true; subcommand_required = true }) a) c.new.ensures.app
