use Rattle.live_stats.specs.Tallies.{began_with}
use Rattle.live_stats.proofs.stats.Stats.new.Goals as goal

pub returns : goal.returns
unfolding began_with
returns c = λ i. record {
  states = c.in_ok-copies.ensures i;
  peers = c.in_ok-first_of.ensures i;
  sessions = 0;
  came = c.in_ok-zeros.ensures i;
  inward = c.in_ok-new.ensures i;
  outward = c.in_ok-new-2.ensures i;
  began = c.args.moment;
}
