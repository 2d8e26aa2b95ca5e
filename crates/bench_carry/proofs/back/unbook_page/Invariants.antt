use Rattle.std.proofs.Common.{◌≡◌}
use Rattle.acct_book.specs.Book.{with_book}
use Rattle.bench_views.specs.Pages.{taken_back_by}
use Rattle.bench_carry.proofs.back.unbook_page.Given as goal

abbrev pub invariant-loop : goal.invariant-loop
invariant-loop l = l.page ≡ with_book l.initial.page (taken_back_by l.counter l.initial.page.book) l.initial.page.room
