use Rattle.std.proofs.Common.{rules}
use Rattle.acct_book.proofs.page.Page.journal.Goals as goal

pub returns : goal.returns
returns c = search rules
