use Rattle.std.proofs.Common.{rules}
use Rattle.bench_log.proofs.log.Log.is_past.Goals as goal

pub returns : goal.returns
returns c = search rules
