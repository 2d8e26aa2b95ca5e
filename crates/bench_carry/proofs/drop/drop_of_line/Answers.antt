use Rattle.std.proofs.Common.{arith}
use Rattle.bench_carry.proofs.DropLemmas.{count-back, count-more, count_read}
use Rattle.bench_carry.proofs.drop.drop_of_line.Goals as goal

pub returns-then-carried-place-clause-dropped : goal.returns-then-carried-place-clause-dropped
returns-then-carried-place-clause-dropped c = count-more c.args.carried.now c.args.line c.requires.0 c.requires.1

pub returns-then-carried-place-clause-undone : goal.returns-then-carried-place-clause-undone
returns-then-carried-place-clause-undone c = count-back c.args.carried.now c.args.line c.requires.0 c.requires.1

pub returns-else-carried-place-clause-dropped : goal.returns-else-carried-place-clause-dropped
returns-else-carried-place-clause-dropped c =
    absurd (omega (arith, c.requires.2, count_read c.args.carried.now c.args.line c.requires.0 c.requires.1))

pub returns-else-carried-place-clause-undone : goal.returns-else-carried-place-clause-undone
returns-else-carried-place-clause-undone c =
    absurd (omega (arith, c.requires.2, count_read c.args.carried.now c.args.line c.requires.0 c.requires.1))
