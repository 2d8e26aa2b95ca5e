use Rattle.acct_book.proofs.ReservedLaw.{session-sum_of_own}
use Rattle.acct_book.proofs.law.session_is_sum_of_own.Goals as goal

pub returns : goal.returns
returns c = session-sum_of_own
