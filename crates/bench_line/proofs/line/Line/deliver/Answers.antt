use Rattle.std.proofs.Common.{rules}
use Rattle.bench_line.proofs.line.Line.deliver.Goals as goal

pub returns-in-Closed-clause-ok : goal.returns-in-Closed-clause-ok
returns-in-Closed-clause-ok c = search rules
