use Rattle.std.proofs.Common.{ap, codes, ◌∙◌}
use Rattle.std.proofs.lemmas.Result.{IfOk-weaker}
use Rattle.clap.specs.Words.{App, with_rule}
use Rattle.cmd_words.specs.Words.{flag_rule, option_rule}
use Rattle.cmd_words.proofs.commands.run_command.Goals as goal

-- a flag more at each step
pub returns-clause-app : goal.returns-clause-app
returns-clause-app c =
    let quiet = ap (λ (a : App). with_rule a (flag_rule (codes "quiet"))) c.in_ok-command.ensures.app in
    let sent = ap (λ (a : App). with_rule a (flag_rule (codes "sent"))) (c.in_ok-command-2.ensures.app ∙ quiet) in
    let totals = ap (λ (a : App). with_rule a (flag_rule (codes "totals"))) (c.in_ok-command-3.ensures.app ∙ sent) in
    let nodes = ap (λ (a : App). with_rule a (flag_rule (codes "nodes"))) (c.in_ok-command-4.ensures.app ∙ totals) in
    let cut = ap (λ (a : App). with_rule a (option_rule (codes "N") (codes "cut"))) (c.in_ok-command-5.ensures.app ∙ nodes) in
    let log = ap (λ (a : App). with_rule a (option_rule (codes "DIR") (codes "log"))) (c.in_ok-command-6.ensures.app ∙ cut) in
    let sample = ap (λ (a : App). with_rule a (flag_rule (codes "sample"))) (c.in_ok-command-7.ensures.app ∙ log) in
    IfOk-weaker c.with_flag-5.result _ _ (λ r is. is ∙ sample) c.with_flag-5.ensures.app
