-- The law follows from the lemma that is cited.
use Rattle.bench_spec.proofs.RunLemmas.{IsLegal-runs}
use Rattle.bench_spec.proofs.law.legal_is_run.Goals as goal

pub returns : goal.returns
returns c = IsLegal-runs
