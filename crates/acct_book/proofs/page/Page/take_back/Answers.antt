use Rattle.acct_book.proofs.LedgerLemmas.{NeverOver-kept}
use Rattle.acct_book.proofs.page.Page.take_back.Goals as goal

pub returns-clause-never_over : goal.returns-clause-never_over
returns-clause-never_over c = NeverOver-kept c.take_back.new.self c.take_back.ensures.kept
