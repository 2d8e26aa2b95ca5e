use Rattle.std.proofs.Common.{ap, codes, ◌∙◌}
use Rattle.std.proofs.lemmas.Result.{IfOk-weaker}
use Rattle.clap.specs.Words.{App, new_rule, with_rule}
use Rattle.cmd_words.specs.Words.{flag_rule, option_rule}
use Rattle.cmd_words.proofs.live.live_command.Goals as goal

-- an argument more at each step
pub returns-clause-app : goal.returns-clause-app
returns-clause-app c =
    let config = ap (λ (a : App). with_rule a (new_rule (codes "CONFIG"))) c.bare.ensures.app in
    let node = ap (λ (a : App). with_rule a (option_rule (codes "HOST") (codes "node"))) (c.in_ok-command.ensures.app ∙ config) in
    let seconds = ap (λ (a : App). with_rule a (option_rule (codes "SECONDS") (codes "seconds"))) (c.in_ok-command-2.ensures.app ∙ node) in
    let log = ap (λ (a : App). with_rule a (option_rule (codes "DIR") (codes "log"))) (c.in_ok-command-3.ensures.app ∙ seconds) in
    let stats = ap (λ (a : App). with_rule a (flag_rule (codes "stats"))) (c.in_ok-command-4.ensures.app ∙ log) in
    IfOk-weaker c.with_flag.result _ _ (λ r is. is ∙ stats) c.with_flag.ensures.app
