use Rattle.std.proofs.Common.{◌≡◌, ◌-◌, length, take, fold}
use Rattle.acct_book.specs.Book.{after}
use Rattle.acct_book.specs.Ledger.{book_of, IsKept, HasRoom}
use Rattle.acct_book.proofs.ledger.Ledger.book_all.Given as goal

abbrev pub invariant-loop-op : goal.invariant-loop-op
invariant-loop-op l = record {
  kept : IsKept l.self;
  book : book_of l.self ≡ fold after (book_of l.initial.self) (take l.op-index l.ops);
  room : HasRoom l.self (length l.ops - l.op-index);
  left : l.self.room ≡ l.initial.self.room - l.op-index;
}
