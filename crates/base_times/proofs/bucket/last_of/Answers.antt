use Rattle.std.proofs.Common.{◌-◌, ◌/◌, sym, arith}
use Rattle.std.proofs.lemmas.Nat.{pow_pos}
use Rattle.base_times.proofs.BucketLemmas.{last_small, low_wide, next_small, next_wide, width_small}
use Rattle.base_times.proofs.bucket.last_of.Goals as goal

pub returns-then-bucket-lt16 : goal.returns-then-bucket-lt16
returns-then-bucket-lt16 c = sym (next_small c.args.bucket c.if-bucket-lt16.true)

pub overflow_mul-result : goal.overflow_mul-result
overflow_mul-result c = rw c.pow-width.ensures (omega (arith, last_small c.args.bucket c.requires))

pub overflow_add-result-2 : goal.overflow_add-result-2
overflow_add-result-2 c = rw c.pow-width.ensures
    (omega (arith, last_small c.args.bucket c.requires, width_small c.args.bucket c.requires))

pub returns : goal.returns
returns c = rw c.pow-width.ensures
    (omega (arith, pow_pos (c.args.bucket / 16 - 1), low_wide c.args.bucket c.if-bucket-lt16.false, next_wide c.args.bucket c.if-bucket-lt16.false))
