use Rattle.acct_book.proofs.LedgerLemmas.{NeverOver-kept}
use Rattle.acct_book.proofs.page.Page.apply.Goals as goal

pub returns-in_err-make_room-clause-never_over : goal.returns-in_err-make_room-clause-never_over
returns-in_err-make_room-clause-never_over c = NeverOver-kept c.make_room.new.self (c.make_room.ensures.kept c.self.invariant)

pub returns-clause-never_over : goal.returns-clause-never_over
returns-clause-never_over c = NeverOver-kept c.book.new.self c.book.ensures.kept
