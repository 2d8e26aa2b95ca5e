use Rattle.std.proofs.Common.{arith}
use Rattle.tab_load.proofs.CountLemmas.{whole-count}
use Rattle.tab_load.proofs.counts.read_counts.Goals as goal

pub number_at-requires-3 : goal.number_at-requires-3
number_at-requires-3 c = let whole = whole-count c.args.format c.args.octets.now 4 (c.loop-number.invariant 4 (omega (arith, c.loop-number-test.false))) in omega (arith, whole)

pub number_at-requires-4 : goal.number_at-requires-4
number_at-requires-4 c = let whole = whole-count c.args.format c.args.octets.now 4 (c.loop-number.invariant 4 (omega (arith, c.loop-number-test.false))) in omega (arith, whole)

pub number_at-requires-5 : goal.number_at-requires-5
number_at-requires-5 c = let whole = whole-count c.args.format c.args.octets.now 4 (c.loop-number.invariant 4 (omega (arith, c.loop-number-test.false))) in omega (arith, whole)
