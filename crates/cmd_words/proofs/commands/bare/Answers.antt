use Rattle.std.proofs.Common.{ap, ◌∙◌}
use Rattle.clap.specs.Simple.{app_of_fields}
use Rattle.clap.specs.declared.builder.command.Command.{Command}
use Rattle.clap.specs.declared.builder.command.Command.TheOpen.{Command-F}
use Rattle.cmd_words.proofs.commands.bare.Goals as goal

-- the texts of the help are no part of what is understood
pub returns-clause-app : goal.returns-clause-app
returns-clause-app c =
    ap (λ (f : Command-F Command). app_of_fields f) c.after_help.ensures
    ∙ ap (λ (f : Command-F Command). app_of_fields f) c.long_about.ensures
    ∙ ap (λ (f : Command-F Command). app_of_fields f) c.about.ensures
    ∙ c.new.ensures.app

pub returns-clause-local : goal.returns-clause-local
returns-clause-local c =
    ap (λ (f : Command-F Command). f.has_globals) c.after_help.ensures
    ∙ ap (λ (f : Command-F Command). f.has_globals) c.long_about.ensures
    ∙ ap (λ (f : Command-F Command). f.has_globals) c.about.ensures
    ∙ c.new.ensures.local
