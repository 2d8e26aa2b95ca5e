use Rattle.std.proofs.Common.{rules}
use Rattle.tab_call.proofs.registry.add_act_law.Goals as goal

pub returns-in_err-add_act-clause-err : goal.returns-in_err-add_act-clause-err
returns-in_err-add_act-clause-err c = search rules

pub returns-clause-ok : goal.returns-clause-ok
returns-clause-ok c = search rules
