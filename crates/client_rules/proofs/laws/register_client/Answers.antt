use Rattle.std.proofs.Common.{rules}
use Rattle.client_rules.proofs.laws.register_client.Goals as goal

pub returns-clause-ok : goal.returns-clause-ok
returns-clause-ok c = search rules

pub returns-clause-answer : goal.returns-clause-answer
returns-clause-answer c = search rules
