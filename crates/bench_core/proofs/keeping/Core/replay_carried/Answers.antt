use Rattle.bench_core.proofs.ReplayLemmas.{takes-other}
use Rattle.bench_core.proofs.keeping.Core.replay_carried.Goals as goal

pub returns-in-Ok-clause-illegal : goal.returns-in-Ok-clause-illegal
returns-in-Ok-clause-illegal c illegal follows =
    c.settle.ensures.other illegal
    (takes-other c.args.self.now c.take_carried.new.self c.args.step c.args.item.now c.single.ensures c.in-Ok.ensures.ok follows)
