-- The law follows from the lemma that is cited.
use Rattle.std.proofs.Common.{[], ◌∷◌}
use Rattle.bench_spec.proofs.LegalLemmas.{IsLegal-front, MayFollow-last}
use Rattle.bench_spec.proofs.law.legal_goes_back.Goals as goal

pub returns : goal.returns
returns c = λ settings log e legal. (IsLegal-front settings log (e ∷ []) legal, MayFollow-last settings log e legal)
