use Rattle.tab_load.proofs.PromiseLemmas.{ok-ends}
use Rattle.tab_load.proofs.loading.load.Goals as goal

pub returns-clause-ends : goal.returns-clause-ends
returns-clause-ends c = ok-ends c.args.book.now c.read_program.result c.read_program.ensures.loaded
