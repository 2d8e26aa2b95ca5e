-- The example follows from the lemma that is cited.
use Rattle.bench_spec.proofs.MergedLemmas.{is_merged}
use Rattle.bench_spec.proofs.example.charge_log_is_merged.Goals as goal

pub returns : goal.returns
returns c = is_merged
