use Rattle.std.proofs.Common.{◌≡◌}
use Rattle.acct_book.specs.Book.{with_book}
use Rattle.bench_move.specs.Moves.{without_last}
use Rattle.bench_move.proofs.booking.take_back.Given as goal

abbrev pub invariant-loop : goal.invariant-loop
invariant-loop l = l.page ≡ with_book l.initial.page (without_last l.initial.page.book l.counter) l.initial.page.room
