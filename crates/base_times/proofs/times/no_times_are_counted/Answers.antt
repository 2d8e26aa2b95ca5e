use Rattle.base_times.proofs.PercentileLemmas.{none_counted}
use Rattle.base_times.proofs.times.no_times_are_counted.Goals as goal

pub returns : goal.returns
returns c = none_counted
