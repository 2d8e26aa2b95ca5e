use Rattle.std.proofs.Common.{rules}
use Rattle.bench_log.proofs.log.Log.truncate.Goals as goal

pub returns : goal.returns
returns c = search rules
