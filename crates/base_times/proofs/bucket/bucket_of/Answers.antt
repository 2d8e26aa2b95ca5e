use Rattle.std.proofs.Common.{◌<◌, ◌^◌, sym, arith}
use Rattle.base_times.proofs.BucketLemmas.{bucket_small, bucket_there, bucket_wide, top_high}
use Rattle.base_times.specs.Buckets.{bucket_of}
use Rattle.base_times.proofs.bucket.bucket_of.Goals as goal

pub returns-then-time-lt16 : goal.returns-then-time-lt16
returns-then-time-lt16 c = sym (bucket_small c.args.time c.if-time-lt16.true)

pub overflow_sub-span : goal.overflow_sub-span
overflow_sub-span c = top_high c.args.time c.if-time-lt16.false (omega arith)

pub overflow_add-result : goal.overflow_add-result
overflow_add-result c =
    let fits : c.args.time < 2 ^ 64 = omega arith in
    let there = bucket_there c.args.time fits in
    omega (arith, there, bucket_wide c.args.time c.if-time-lt16.false)

pub returns : goal.returns
returns c = sym (bucket_wide c.args.time c.if-time-lt16.false)
