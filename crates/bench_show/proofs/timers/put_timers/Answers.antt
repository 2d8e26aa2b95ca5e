use Rattle.std.proofs.Common.{◌≡◌, ◌*◌, ◌++◌, ◌∙◌, ℕ, ap, arith}
use Rattle.bench_item.specs.declared.limit.TheConstants.{MAX_MACHINES, MAX_SHARDS}
use Rattle.bench_show.specs.Timers.{timers_to}
use Rattle.bench_show.proofs.CountLemmas.{none_put, one_put}
use Rattle.bench_show.proofs.TimerLemmas.{timers_more, timers_none}
use Rattle.bench_show.proofs.timers.put_timers.Goals as goal

-- no timer was put
pub machines-init : goal.machines-init
machines-init c = none_put _ _ (timers_none c.args.core.now)

-- one more was, where it is armed
pub machines-preserved : goal.machines-preserved
machines-preserved c =
    one_put _ _ _ _ _ _ c.in_ok-put_timer.ensures c.machines.invariant (timers_more c.args.core.now c.machines.machine)

-- all were
pub returns : goal.returns
returns c =
    let all : c.machines.machine ≡ MAX_SHARDS * MAX_MACHINES = omega arith in
    c.machines.invariant ∙ ap (λ (n : ℕ). c.args.out.now.items ++ timers_to c.args.core.now n) all
