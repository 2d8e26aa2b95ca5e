use Rattle.bench_script.proofs.PrintedLemmas.{machine_at-by}
use Rattle.bench_nodes.proofs.dials.machine_at.Goals as goal

pub returns : goal.returns
returns c = machine_at-by c.args.core.now c.args.machine c.in_ok-key.key c.in_ok-key.ensures.there c.in_ok-key.ensures.none
