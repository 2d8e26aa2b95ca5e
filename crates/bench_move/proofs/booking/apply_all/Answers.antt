use Rattle.std.proofs.Common.{arith, append_assoc, refl}
use Rattle.bench_move.proofs.BookLemmas.{booked-next, outcomes_of-next}
use Rattle.bench_move.proofs.booking.apply_all.Goals as goal

pub loop-op-preserved : goal.loop-op-preserved
loop-op-preserved c = record {
  page = booked-next c.args.page.now c.loop-op.page c.apply.new.self c.args.ops.now c.loop-op.op-index _ c.loop-op-test.true c.loop-op.invariant.page c.in-Ok.ensures.book;
  outcomes =
      rw (c.push.ensures.items, c.unwrap.ensures, c.loop-op.invariant.outcomes, outcomes_of-next c.args.page.now c.loop-op.page c.args.ops.now c.loop-op.op-index _ c.in-Ok.outcome c.loop-op-test.true c.loop-op.invariant.page c.in-Ok.ensures.outcome, append_assoc)
      refl;
  memory =
      let len = rw c.unwrap.ensures at c.push.ensures.len in
      omega arith;
}
