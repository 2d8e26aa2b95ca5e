-- The example follows from the lemma that is cited.
use Rattle.bench_spec.proofs.GatherLemmas.{is_gathered}
use Rattle.bench_spec.proofs.example.charge_log_is_gathered.Goals as goal

pub returns : goal.returns
returns c = is_gathered
