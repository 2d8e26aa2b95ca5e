use Rattle.std.proofs.Common.{ap, length, arith}
use Rattle.base_times.proofs.CountLemmas.{cleared}
use Rattle.live_stats.specs.declared.flow.TheConstants.{CODES}
use Rattle.live_stats.specs.Exchanges.{Exchange, no_exchange}
use Rattle.live_stats.proofs.flow.Flow.rest.Goals as goal

pub returns : goal.returns
unfolding no_exchange
returns c =
    let answers = cleared c.self.inside.answers.len (length c.deref_mut.result.now) CODES c.clear.new.counts _ c.clear.ensures
    (omega (arith, c.deref_mut.ensures.len)) (omega (arith, c.self.invariant)) in
    let waiting = ap (λ (it : Exchange). it.waiting) c.self.view_is in
    λ i. record { requests = 0; answers = answers i; others = 0; waiting = waiting i; times = c.clear-2.ensures i }
