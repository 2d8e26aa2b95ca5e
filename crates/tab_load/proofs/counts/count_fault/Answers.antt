use Rattle.std.proofs.Common.{rules}
use Rattle.tab_load.proofs.counts.count_fault.Goals as goal

pub returns : goal.returns
returns c = search rules
