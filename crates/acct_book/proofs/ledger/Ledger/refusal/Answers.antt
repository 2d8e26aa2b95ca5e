use Rattle.std.proofs.Common.{◌∙◌, sym}
use Rattle.acct_book.specs.Book.{refusal_at}
use Rattle.acct_book.proofs.LedgerLemmas.{refusal_by}
use Rattle.acct_book.proofs.ledger.Ledger.refusal.Goals as goal

pub returns : goal.returns
returns c =
    c.refusal.ensures
    ∙ (λ i. refusal_at (c.contains_key-is_open.ensures i) c.args.given (c.len.ensures.len i))
    ∙ sym (refusal_by c.args.self.now.accounts c.args.self.now.journal.items c.args.account c.args.given)
