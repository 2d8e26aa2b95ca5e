use Rattle.std.proofs.Common.{◌≢◌, ◌∙◌, ◌<◌, length, arith}
use Rattle.std.specs.Prelude.{sum}
use Rattle.base_times.specs.Percentiles.{rank_of, reached}
use Rattle.base_times.proofs.PercentileLemmas.{percentile_there}
use Rattle.base_times.proofs.times.percentile_of.Goals as goal

pub last_of-requires : goal.last_of-requires
last_of-requires c =
    let some : sum c.args.counts.now ≢ 0 = λ none. c.if-total-eq0.false (c.total_of-total.ensures.is ∙ none) in
    let there : reached (rank_of (sum c.args.counts.now) c.args.percent) c.args.counts.now < length c.args.counts.now
    = percentile_there c.args.counts.now c.args.percent some c.requires.some c.requires.percent in
    rw (c.reached.ensures, c.rank_of.ensures, c.total_of-total.ensures.is) (omega (arith, there, c.requires.length))
