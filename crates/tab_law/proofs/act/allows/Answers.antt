use Rattle.std.proofs.Common.{rules}
use Rattle.tab_law.proofs.act.allows.Goals as goal

pub returns-then-min-new : goal.returns-then-min-new
returns-then-min-new c = search rules
