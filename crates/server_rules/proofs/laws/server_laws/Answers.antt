use Rattle.std.proofs.Common.{rules}
use Rattle.server_rules.proofs.laws.server_laws.Goals as goal

pub returns : goal.returns
returns c = search rules
