use Rattle.std.proofs.Common.{ap}
use Rattle.bench_carry.proofs.TimerLemmas.{disarmed-back, same-disarmed}
use Rattle.bench_carry.proofs.arrive.disarm.Goals as goal

pub returns-in-None-clause-came : goal.returns-in-None-clause-came
returns-in-None-clause-came c = same-disarmed c.args.wheel.now c.args.machine c.in-None.ensures.armed

pub returns-in-Some-clause-undone : goal.returns-in-Some-clause-undone
returns-in-Some-clause-undone c =
    λ s. ap (λ timers. record s { timers = timers })
    (disarmed-back c.args.wheel.now c.disarm.new.self c.args.machine _ c.disarm.ensures c.in-Some.ensures.armed)
