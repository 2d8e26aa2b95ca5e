use Rattle.std.proofs.Common.{ap, get_or, ◌∙◌}
use Rattle.acct_book.specs.Book.{Paged, refusal_of}
use Rattle.bench_open.specs.declared.account.Account.{Account}
use Rattle.bench_start.proofs.OpenLemmas.{free-account, numbered-at}
use Rattle.bench_start.proofs.pages.open_page.Goals as goal

abbrev nobody : Account
nobody = record { id = 0; given = 0 }

pub open_account-requires-clause-some : goal.open_account-requires-clause-some
open_account-requires-clause-some c = numbered-at c.args.count c.args.accounts.now c.loop-account.account-index nobody c.loop-account-test.true c.requires.accounts

pub open_account-requires-clause-free : goal.open_account-requires-clause-free
open_account-requires-clause-free c =
    let account = get_or c.args.accounts.now c.loop-account.account-index nobody in
    ap (λ (p : Paged). refusal_of p.book account.id account.given) c.loop-account.invariant
    ∙ free-account c.args.count c.args.number c.args.accounts.now c.loop-account.account-index nobody c.loop-account-test.true c.requires.accounts c.if-account-count.true
