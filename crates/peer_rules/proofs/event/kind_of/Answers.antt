use Rattle.std.proofs.Common.{rules}
use Rattle.peer_rules.proofs.event.kind_of.Goals as goal

pub returns-in-Dwr : goal.returns-in-Dwr
returns-in-Dwr c = search rules
