use Rattle.std.proofs.Common.{Some, ap, ◌∙◌}
use Rattle.clap.specs.Words.{Rule, rule_of}
use Rattle.clap.specs.declared.builder.arg.Arg.{Arg}
use Rattle.cmd_words.proofs.commands.option.Goals as goal

-- the argument is one with a long name
pub returns-clause-rule : goal.returns-clause-rule
returns-clause-rule c =
    ap (λ (a : Arg). rule_of a) c.long.ensures
    ∙ ap (λ (r : Rule). record r { long = Some c.args.name.now }) c.value.ensures.rule

pub returns-clause-local : goal.returns-clause-local
returns-clause-local c = ap (λ (a : Arg). a.global) c.long.ensures ∙ c.value.ensures.local
