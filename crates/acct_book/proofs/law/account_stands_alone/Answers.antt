use Rattle.acct_book.proofs.AloneLemmas.{account_alone, one_account_says_the_same}
use Rattle.acct_book.proofs.law.account_stands_alone.Goals as goal

pub returns : goal.returns
returns c = record { alone = account_alone; same = one_account_says_the_same }
