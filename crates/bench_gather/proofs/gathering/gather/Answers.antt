use Rattle.std.proofs.Common.{refl}
use Rattle.bench_gather.proofs.PartLemmas.{past}
use Rattle.bench_gather.proofs.gathering.gather.Goals as goal

pub returns-then-is_past : goal.returns-then-is_past
returns-then-is_past c = (past c.is_past.result c.args.parts.now c.is_past.ensures c.if-is_past.true, refl)
