use Rattle.std.proofs.Common.{ap, subst, sym}
use Rattle.std.specs.Prelude.{IsTrue}
use Rattle.std.specs.FinSet as set
use Rattle.bench_carry.proofs.TimerLemmas.{armed-back, place-new, placed-armed}
use Rattle.bench_carry.proofs.arrive.arm.Goals as goal

pub returns-clause-undone : goal.returns-clause-undone
returns-clause-undone c =
    λ s. ap (λ timers. record s { timers = timers })
    (armed-back c.args.wheel.now c.arm.new.self c.args.machine c.args.generation c.args.ticks c.armed-old.result c.in_ok-arm.ensures.ok c.armed-old.ensures.armed)

pub returns-clause-placed : goal.returns-clause-placed
returns-clause-placed c =
    λ source. subst (λ w. IsTrue (set.contains w.places c.args.machine)) (sym c.in_ok-arm.ensures.ok)
    (place-new c.args.wheel.now.places c.args.machine)

pub returns-clause-places : goal.returns-clause-places
returns-clause-places c =
    λ undo placed. placed-armed c.args.wheel.now c.arm.new.self c.args.machine c.args.generation c.args.ticks undo c.in_ok-arm.ensures.ok placed
