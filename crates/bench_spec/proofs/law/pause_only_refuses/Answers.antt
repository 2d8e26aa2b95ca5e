-- The law follows from the lemma that is cited.
use Rattle.bench_spec.proofs.PauseLemmas.{refusal-unpaused}
use Rattle.bench_spec.proofs.law.pause_only_refuses.Goals as goal

pub returns : goal.returns
returns c = refusal-unpaused
