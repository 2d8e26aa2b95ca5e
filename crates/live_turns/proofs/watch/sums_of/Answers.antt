use Rattle.std.proofs.Common.{◌∙◌, List, ap}
use Rattle.std.specs.Prelude.{sum_by}
use Rattle.acct_book.specs.Book.{Opened}
use Rattle.live_turns.specs.Watched.{debited_at, reserved_at, sums_of}
use Rattle.live_turns.proofs.WatchLemmas.{sum_by-opened}
use Rattle.live_turns.proofs.watch.sums_of.Goals as goal

pub returns : goal.returns
unfolding sums_of
returns c =
    let reserved = sum_by-opened (reserved_at c.args.core.now) c.accounts.result.now
    ∙ ap (λ (os : List Opened). sum_by (λ (account : Opened). reserved_at c.args.core.now account.id) os) c.accounts.ensures in
    let debited = sum_by-opened (debited_at c.args.core.now) c.accounts.result.now
    ∙ ap (λ (os : List Opened). sum_by (λ (account : Opened). debited_at c.args.core.now account.id) os) c.accounts.ensures in
    c.sums_over.ensures ∙ (λ i. record { reserved = reserved i; debited = debited i })
