use Rattle.std.proofs.Common.{rules}
use Rattle.tab_call.proofs.registry.Registry.add_kind.Goals as goal

pub returns-clause-ok : goal.returns-clause-ok
returns-clause-ok c = search rules
