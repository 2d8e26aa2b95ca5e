use Rattle.std.proofs.Common.{rules}
use Rattle.tab_step.proofs.binding.bind.Goals as goal

pub find_rows-requires : goal.find_rows-requires
find_rows-requires c = search rules

pub returns-clause-found : goal.returns-clause-found
returns-clause-found c = search rules
