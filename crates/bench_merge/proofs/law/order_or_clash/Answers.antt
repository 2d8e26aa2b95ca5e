use Rattle.bench_merge.proofs.LawLemmas.{order_or_clash}
use Rattle.bench_merge.proofs.law.order_or_clash.Goals as goal

pub returns : goal.returns
returns c = order_or_clash
