use Rattle.acct_book.proofs.ReservedLaw.{reserved-sum_of_own}
use Rattle.acct_book.proofs.law.reserved_is_sum_of_own.Goals as goal

pub returns : goal.returns
returns c = reserved-sum_of_own
