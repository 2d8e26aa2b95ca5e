use Rattle.std.proofs.Common.{rules}
use Rattle.bench_line.proofs.round.Round.end.Goals as goal

pub returns-clause-ok : goal.returns-clause-ok
returns-clause-ok c = search rules
