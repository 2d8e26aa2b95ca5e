-- The pages of the account book: each has the accounts whose number, divided by the count of pages, leaves its own.
use Rattle.std.specs.Prelude.{◌≡◌, ℕ, zero, suc, ◌%◌, ◌==◌, Bool, List, filter, map, zip, Option, Some, None}
use Rattle.std.specs.List.{AllByRecursion as Each}
use Rattle.acct_book.specs.Book.{Book, Opened, taken_back}
use Rattle.acct_totals.specs.Amounts.{account_of}
use Rattle.acct_totals.specs.declared.op.Booked.{Booked}
use Rattle.acct_totals.specs.declared.op.Op.{Op}
use Rattle.acct_totals.specs.declared.op.Outcome.{Outcome}
use Rattle.charge_session.specs.declared.want.Want.{Want}
use Rattle.bench_item.specs.declared.entry.Entry.{Entry}
use Rattle.bench_spec.specs.Booked.{book_at}
use Rattle.bench_spec.specs.Settings.{Settings}

-- whether an account is on the page of that number, of so many
abbrev pub is_on_page : ℕ → ℕ → ℕ → Bool
is_on_page pages page account = account % pages == page

-- what was booked on a page's accounts
abbrev pub on_page : ℕ → ℕ → List Booked → List Booked
on_page pages page journal = filter (λ b. is_on_page pages page (account_of b.op)) journal

-- a page of a book: its accounts, and what was booked on them
abbrev pub page_of : ℕ → ℕ → Book → Book
page_of pages page book = record {
  accounts = filter (λ o. is_on_page pages page o.id) book.accounts;
  journal = on_page pages page book.journal;
}

-- a page of the book at a log
abbrev pub page_at : Settings → ℕ → List Entry → Book
page_at settings page log = page_of settings.pages page (book_at settings log)

-- the page that is asked has the account, where something is asked
abbrev pub IsAsked : ℕ → ℕ → Option Want → Type 0
IsAsked pages page None = Unit {0}
IsAsked pages page (Some want) = want.account % pages ≡ page

-- another page is asked, or nothing is
abbrev pub IsNotAsked : ℕ → ℕ → Option Want → Type 0
IsNotAsked pages page None = Unit {0}
IsNotAsked pages page (Some want) = want.account % pages ≡ page → ⊥

-- operations on one account
abbrev pub AreOn : ℕ → List Op → Type 0
AreOn account ops = Each (λ op. account_of op ≡ account) ops

abbrev pub book_with : List Opened → List Booked → Book
book_with accounts journal = record { accounts = accounts; journal = journal }

-- operations with these outcomes
abbrev pub with_outcomes : List Op → List Outcome → List Booked
with_outcomes ops outcomes = map (λ p. record { op = p.0; outcome = p.1 }) (zip ops outcomes)

-- the book before its last operations, so many
abbrev pub taken_back_by : ℕ → Book → Book
taken_back_by zero book = book
taken_back_by (suc n) book = taken_back (taken_back_by n book)
