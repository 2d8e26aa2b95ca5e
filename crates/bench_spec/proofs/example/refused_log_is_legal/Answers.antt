-- The example follows from the lemma that is cited.
use Rattle.bench_spec.proofs.ChargeLemmas.{z_is_legal}
use Rattle.bench_spec.proofs.example.refused_log_is_legal.Goals as goal

pub returns : goal.returns
returns c = z_is_legal
