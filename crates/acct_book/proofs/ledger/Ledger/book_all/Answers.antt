use Rattle.std.proofs.Common.{◌≡◌, ◌+◌, ◌-◌, length, ap, sym, subst, ◌∙◌, arith, get_or, take, fold}
use Rattle.std.proofs.lemmas.List.Sums.{fold_more}
use Rattle.acct_totals.specs.declared.op.Op.{Op}
use Rattle.acct_totals.specs.declared.op.Op.TheVariants.{Reserve}
use Rattle.acct_book.specs.Book.{Book, after}
use Rattle.acct_book.specs.Ledger.{HasRoom, book_of}
use Rattle.acct_book.proofs.ledger.Ledger.book_all.Goals as goal

pub loop-op-preserved : goal.loop-op-preserved
loop-op-preserved c =
    let left : length c.args.ops.now - c.loop-op.op-index ≡ length c.args.ops.now - (c.loop-op.op-index + 1) + 1 = omega arith in
    let op : Op = get_or c.args.ops.now c.loop-op.op-index (Reserve 0 0 0 0) in
    let step : fold after (book_of c.args.self.now) (take (c.loop-op.op-index + 1) c.args.ops.now) ≡ after (fold after (book_of c.args.self.now) (take c.loop-op.op-index c.args.ops.now)) op =
    fold_more after (book_of c.args.self.now) c.args.ops.now c.loop-op.op-index (Reserve 0 0 0 0) c.loop-op-test.true in
    record {
      kept = c.book.ensures.kept;
      book = c.book.ensures.book ∙ ap (λ (b : Book). after b op) c.loop-op.invariant.book ∙ sym step;
      room = c.book.ensures.room _ (subst (HasRoom c.loop-op.self) left c.loop-op.invariant.room);
      left = omega (arith, c.book.ensures.left, c.loop-op.invariant.left);
    }
