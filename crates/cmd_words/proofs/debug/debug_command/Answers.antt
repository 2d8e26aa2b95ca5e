use Rattle.std.proofs.Common.{ap, codes, ◌∙◌}
use Rattle.std.proofs.lemmas.Result.{IfOk-weaker}
use Rattle.clap.specs.Words.{App, new_rule, with_rule}
use Rattle.cmd_words.specs.Words.{option_rule}
use Rattle.cmd_words.proofs.debug.debug_command.Goals as goal

-- an argument more at each step
pub returns-clause-app : goal.returns-clause-app
returns-clause-app c =
    let named = ap (λ (a : App). with_rule a (new_rule (codes "CONFIG"))) c.bare.ensures.app in
    let config = ap (λ (a : App). with_rule a (new_rule (codes "SCRIPT"))) (c.in_ok-command.ensures.app ∙ named) in
    let script = ap (λ (a : App). with_rule a (option_rule (codes "FILE") (codes "run"))) (c.in_ok-command-2.ensures.app ∙ config) in
    IfOk-weaker c.with_option.result _ _ (λ r is. is ∙ script) c.with_option.ensures.app
