-- The law is the lemma that is cited.
use Rattle.bench_gather.proofs.ExactLemmas.{merged-is_gathered}
use Rattle.bench_gather.proofs.law.merged_is_gathered.Goals as goal

pub returns : goal.returns
returns c = merged-is_gathered
