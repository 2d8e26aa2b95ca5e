-- The law is the lemma that is cited.
use Rattle.bench_gather.proofs.LogLemmas.{by-parts}
use Rattle.bench_gather.proofs.law.by_parts.Goals as goal

pub returns : goal.returns
returns c = by-parts
