-- The law is the lemma that is cited.
use Rattle.bench_gather.proofs.ExactLemmas.{merged-disagrees}
use Rattle.bench_gather.proofs.law.merged_disagrees.Goals as goal

pub returns : goal.returns
returns c = merged-disagrees
