use Rattle.std.proofs.Common.{rules}
use Rattle.acct_book.proofs.ledger.Ledger.totals.Goals as goal

pub returns : goal.returns
returns c = search rules
