use Rattle.std.proofs.Common.{◌∙◌, sym, ap, nat_eq}
use Rattle.indexmap.specs.IndexMap.{get}
use Rattle.acct_book.specs.Book.{Paged, totals_of}
use Rattle.acct_book.proofs.LedgerLemmas.{totals_of-book_of, zero-kept}
use Rattle.acct_book.proofs.page.Page.totals.Goals as goal

pub returns-clause-sums : goal.returns-clause-sums
returns-clause-sums c =
    c.totals.ensures ∙ sym (ap (λ (p : Paged). totals_of p.book c.args.account) (sym c.self.view_is) ∙ totals_of-book_of c.self.inside.ledger c.self.invariant c.args.account)

pub returns-clause-zero : goal.returns-clause-zero
returns-clause-zero c = λ e. c.totals.ensures ∙ ap (get nat_eq c.self.inside.ledger.accounts) e ∙ zero-kept c.self.inside.ledger c.self.invariant
