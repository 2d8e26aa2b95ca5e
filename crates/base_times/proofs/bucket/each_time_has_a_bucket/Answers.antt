use Rattle.base_times.proofs.BucketLemmas.{has_bucket}
use Rattle.base_times.proofs.bucket.each_time_has_a_bucket.Goals as goal

pub returns : goal.returns
returns c = has_bucket
