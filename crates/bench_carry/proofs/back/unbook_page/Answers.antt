use Rattle.std.proofs.Common.{◌<◌, arith, length, subst, sym}
use Rattle.bench_carry.proofs.BackLemmas.{length-taken_back}
use Rattle.bench_carry.proofs.back.unbook_page.Goals as goal

pub take_back-requires : goal.take_back-requires
take_back-requires c =
    let left = length-taken_back c.loop.counter c.args.page.now.book in
    subst (λ p. 0 < length p.book.journal) (sym c.loop.invariant) (omega (arith, left, c.requires, c.loop-test.true))
