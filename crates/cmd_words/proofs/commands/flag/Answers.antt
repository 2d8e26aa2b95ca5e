use Rattle.std.proofs.Common.{Some, ap, ◌∙◌}
use Rattle.clap.specs.Words.{Rule, rule_of}
use Rattle.clap.specs.declared.builder.action.ArgAction.TheVariants.{SetTrue}
use Rattle.clap.specs.declared.builder.arg.Arg.{Arg}
use Rattle.cmd_words.proofs.commands.flag.Goals as goal

-- the argument is an option that only is set
pub returns-clause-rule : goal.returns-clause-rule
returns-clause-rule c =
    ap (λ (a : Arg). rule_of a) c.action.ensures
    ∙ ap (λ (r : Rule). record r { action = Some SetTrue }) c.option.ensures.rule

pub returns-clause-local : goal.returns-clause-local
returns-clause-local c = ap (λ (a : Arg). a.global) c.action.ensures ∙ c.option.ensures.local
