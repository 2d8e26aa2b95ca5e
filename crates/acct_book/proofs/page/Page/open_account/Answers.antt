use Rattle.std.proofs.Common.{◌∙◌, sym}
use Rattle.acct_book.proofs.LedgerLemmas.{fresh_from}
use Rattle.acct_book.proofs.page.Page.open_account.Goals as goal

pub open-requires-clause-fresh : goal.open-requires-clause-fresh
open-requires-clause-fresh c =
    fresh_from c.self.inside.ledger.accounts c.self.inside.ledger.journal.items c.args.id c.args.given (sym c.refusal.ensures ∙ c.in-None.is)
