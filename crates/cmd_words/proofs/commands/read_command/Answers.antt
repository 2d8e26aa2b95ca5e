use Rattle.std.proofs.Common.{ap, codes, ◌∙◌}
use Rattle.std.proofs.lemmas.Result.{IfOk-weaker}
use Rattle.clap.specs.Words.{App, new_rule, with_rule}
use Rattle.cmd_words.specs.Words.{flag_rule, option_rule}
use Rattle.cmd_words.proofs.commands.read_command.Goals as goal

-- an argument more at each step
pub returns-clause-app : goal.returns-clause-app
returns-clause-app c =
    let named = ap (λ (a : App). with_rule a (new_rule (codes "FILE"))) c.bare.ensures.app in
    let file = ap (λ (a : App). with_rule a (flag_rule (codes "explain"))) (c.in_ok-command.ensures.app ∙ named) in
    let explain = ap (λ (a : App). with_rule a (flag_rule (codes "json"))) (c.in_ok-command-2.ensures.app ∙ file) in
    let json = ap (λ (a : App). with_rule a (flag_rule (codes "lines"))) (c.in_ok-command-3.ensures.app ∙ explain) in
    let lines = ap (λ (a : App). with_rule a (option_rule (codes "DICT") (codes "dict"))) (c.in_ok-command-4.ensures.app ∙ json) in
    IfOk-weaker c.with_option.result _ _ (λ r is. is ∙ lines) c.with_option.ensures.app
