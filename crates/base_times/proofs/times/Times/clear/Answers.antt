use Rattle.std.proofs.Common.{length, arith}
use Rattle.base_times.proofs.CountLemmas.{cleared}
use Rattle.base_times.specs.Percentiles.{no_counts}
use Rattle.base_times.specs.declared.bucket.TheConstants.{BUCKETS}
use Rattle.base_times.proofs.times.Times.clear.Goals as goal

pub returns : goal.returns
unfolding no_counts
returns c =
    cleared c.self.inside.counts.len (length c.deref_mut.result.now) BUCKETS c.clear.new.counts _ c.clear.ensures
    (omega (arith, c.deref_mut.ensures.len)) (omega (arith, c.self.invariant))
