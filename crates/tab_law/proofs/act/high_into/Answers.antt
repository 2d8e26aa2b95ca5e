use Rattle.std.proofs.Common.{rules}
use Rattle.tab_law.proofs.act.high_into.Goals as goal

pub returns-clause-permitted : goal.returns-clause-permitted
returns-clause-permitted c = search rules

pub returns-clause-high : goal.returns-clause-high
returns-clause-high c = search rules
