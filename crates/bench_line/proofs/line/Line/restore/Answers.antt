use Rattle.std.proofs.Common.{rules}
use Rattle.bench_line.proofs.line.Line.restore.Goals as goal

pub returns : goal.returns
returns c = search rules
