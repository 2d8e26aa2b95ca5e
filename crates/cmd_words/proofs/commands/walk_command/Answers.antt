use Rattle.std.proofs.Common.{ap, codes, ◌∙◌}
use Rattle.std.proofs.lemmas.Result.{IfOk-weaker}
use Rattle.clap.specs.Words.{App, new_rule, with_rule}
use Rattle.cmd_words.specs.Words.{flag_rule, option_rule}
use Rattle.cmd_words.proofs.commands.walk_command.Goals as goal

-- an argument more at each step
pub returns-clause-app : goal.returns-clause-app
returns-clause-app c =
    let named = ap (λ (a : App). with_rule a (new_rule (codes "TABLE"))) c.bare.ensures.app in
    let table = ap (λ (a : App). with_rule a (new_rule (codes "EVENTS"))) (c.in_ok-command.ensures.app ∙ named) in
    let events = ap (λ (a : App). with_rule a (flag_rule (codes "why"))) (c.in_ok-command-2.ensures.app ∙ table) in
    let why = ap (λ (a : App). with_rule a (option_rule (codes "FROM") (codes "from"))) (c.in_ok-command-3.ensures.app ∙ events) in
    let from = ap (λ (a : App). with_rule a (flag_rule (codes "names"))) (c.in_ok-command-4.ensures.app ∙ why) in
    let names = ap (λ (a : App). with_rule a (option_rule (codes "NAME") (codes "table"))) (c.in_ok-command-5.ensures.app ∙ from) in
    IfOk-weaker c.with_option-2.result _ _ (λ r is. is ∙ names) c.with_option-2.ensures.app
