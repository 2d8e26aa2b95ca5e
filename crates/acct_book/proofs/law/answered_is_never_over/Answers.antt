use Rattle.acct_book.proofs.NeverOver.{never_over_from_answered}
use Rattle.acct_book.proofs.law.answered_is_never_over.Goals as goal

pub returns : goal.returns
returns c = never_over_from_answered
