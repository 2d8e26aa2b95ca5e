use Rattle.std.proofs.Common.{ap, arith, length}
use Rattle.bench_script.proofs.LogLemmas.{openings_few}
use Rattle.bench_script.proofs.next.line_count.Goals as goal

-- there are no more lines than entries
pub overflow_cast-result : goal.overflow_cast-result
overflow_cast-result c = omega (arith, openings_few c.args.core.now.log, ap length c.log.ensures)

pub returns-clause-within : goal.returns-clause-within
returns-clause-within c = omega (arith, openings_few c.args.core.now.log, ap length c.log.ensures)
