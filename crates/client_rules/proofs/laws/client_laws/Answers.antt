use Rattle.std.proofs.Common.{rules}
use Rattle.client_rules.proofs.laws.client_laws.Goals as goal

pub returns : goal.returns
returns c = search rules
