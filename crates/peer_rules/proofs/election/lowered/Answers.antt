use Rattle.std.proofs.Common.{rules}
use Rattle.peer_rules.proofs.election.lowered.Goals as goal

pub returns : goal.returns
returns c = search rules
