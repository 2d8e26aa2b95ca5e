-- What is counted of a node that lives.
use Rattle.std.specs.Prelude.{◌≡◌, ℕ, List, Option, None, Some, drop, length, sum_by}
use Rattle.acct_book.specs.Book.{Opened}
use Rattle.acct_totals.specs.declared.answer.Totals.{Totals}
use Rattle.bench_open.specs.declared.account.Account.{Account}
use Rattle.bench_spec.specs.Taken.{Run, shown}
use Rattle.live_stats.specs.Tallies.{noted_all}
use Rattle.live_stats.specs.declared.stats.Sums.{Sums}
use Rattle.live_turns.specs.declared.watch.Watch.{Watch}

-- what is reserved on an account, and what is debited, if it is there
abbrev pub reserved_on : Option Totals → ℕ
reserved_on None = 0
reserved_on (Some totals) = totals.reserved

abbrev pub debited_on : Option Totals → ℕ
debited_on None = 0
debited_on (Some totals) = totals.debited

-- of the account of a number
unfoldable pub reserved_at : Run → ℕ → ℕ
reserved_at run id = reserved_on ((shown run).totals_at id)

unfoldable pub debited_at : Run → ℕ → ℕ
debited_at run id = debited_on ((shown run).totals_at id)

-- the sums over some accounts
abbrev pub sums_over : Run → List Account → Sums
sums_over run accounts = record {
  reserved = sum_by (λ (account : Account). reserved_at run account.id) accounts;
  debited = sum_by (λ (account : Account). debited_at run account.id) accounts;
}

-- the sums over all accounts that the node was opened with
unfoldable pub sums_of : Run → Sums
sums_of run = record {
  reserved = sum_by (λ (account : Opened). reserved_at run account.id) run.settings.accounts;
  debited = sum_by (λ (account : Opened). debited_at run account.id) run.settings.accounts;
}

-- where a log is watched, the entries were counted that were added since the last look, as of a moment
abbrev pub HasLooked : Option Watch → Option Watch → Run → ℕ → Type 0
HasLooked None new run moment = new ≡ None
HasLooked (Some watch) None run moment = ⊥
HasLooked (Some watch) (Some watch') run moment =
    (watch'.stats ≡ noted_all watch.stats moment (drop watch.seen run.log)) × (watch'.seen ≡ length run.log)
