use Rattle.std.proofs.Common.{ap, codes, ◌∙◌}
use Rattle.std.proofs.lemmas.Result.{IfOk-weaker}
use Rattle.clap.specs.Words.{App, new_rule, with_rule}
use Rattle.cmd_words.proofs.commands.run_values.Goals as goal

-- an argument more at each step
pub returns-clause-app : goal.returns-clause-app
returns-clause-app c =
    let named = ap (λ (a : App). with_rule a (new_rule (codes "CONFIG"))) c.bare.ensures.app in
    let config = ap (λ (a : App). with_rule a (new_rule (codes "SCRIPT"))) (c.in_ok-command.ensures.app ∙ named) in
    IfOk-weaker c.with_value-2.result _ _ (λ r is. is ∙ config) c.with_value-2.ensures.app
