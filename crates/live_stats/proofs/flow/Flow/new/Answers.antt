use Rattle.live_stats.specs.Exchanges.{no_exchange}
use Rattle.live_stats.proofs.flow.Flow.new.Goals as goal

pub returns : goal.returns
unfolding no_exchange
returns c = λ i. record {
  requests = 0;
  answers = c.in_ok-zeros.ensures i;
  others = 0;
  waiting = c.new.ensures.empty i;
  times = c.in_ok-new.ensures i;
}
