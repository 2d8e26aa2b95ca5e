-- The law follows from the lemma that is cited.
use Rattle.bench_spec.proofs.BookLemmas.{IsLegal-answered}
use Rattle.bench_spec.proofs.law.legal_book_is_answered.Goals as goal

pub returns : goal.returns
returns c = IsLegal-answered
