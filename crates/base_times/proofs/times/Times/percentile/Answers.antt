use Rattle.std.proofs.Common.{◌∙◌, sym}
use Rattle.base_times.proofs.PercentileLemmas.{none_means, percentile_means}
use Rattle.base_times.proofs.times.Times.percentile.Goals as goal

pub returns-clause-meaning : goal.returns-clause-meaning
returns-clause-meaning c = λ times are.
    rw c.at.ensures (percentile_means c.args.self.now times c.args.percent c.requires.some c.requires.percent are)

pub returns-clause-none : goal.returns-clause-none
returns-clause-none c = λ times are is.
    none_means c.args.self.now times c.args.percent are (sym c.at.ensures ∙ is)
