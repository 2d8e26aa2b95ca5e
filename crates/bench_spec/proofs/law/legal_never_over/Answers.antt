-- The law follows from the lemma that is cited.
use Rattle.bench_spec.proofs.BookLemmas.{IsLegal-never_over}
use Rattle.bench_spec.proofs.law.legal_never_over.Goals as goal

pub returns : goal.returns
returns c = IsLegal-never_over
