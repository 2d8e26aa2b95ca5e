-- The law is the lemma that is cited.
use Rattle.bench_gather.proofs.ExactLemmas.{gathered-is_merged}
use Rattle.bench_gather.proofs.law.gathered_is_merged.Goals as goal

pub returns : goal.returns
returns c = gathered-is_merged
