-- The law follows from the lemma that is cited.
use Rattle.bench_spec.proofs.LegalLemmas.{IsLegal-snoc}
use Rattle.bench_spec.proofs.law.legal_goes_on.Goals as goal

pub returns : goal.returns
returns c = IsLegal-snoc
