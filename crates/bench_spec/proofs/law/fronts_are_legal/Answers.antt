-- The law follows from the lemma that is cited.
use Rattle.bench_spec.proofs.LegalLemmas.{IsLegal-front}
use Rattle.bench_spec.proofs.law.fronts_are_legal.Goals as goal

pub returns : goal.returns
returns c = IsLegal-front
