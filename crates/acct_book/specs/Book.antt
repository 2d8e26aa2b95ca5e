-- The book: its accounts and its journal, and what these two allow.
use Rattle.std.specs.Prelude.{◌≤◌, ℕ, ◌+◌, ◌-◌, List, [], ◌∷◌, ◌++◌, take, ◌==◌, Bool, nat_le, nat_lt}
use Rattle.std.specs.Prelude.{if◌then◌else◌, find, Option, None, Some, IfSome, is_some, length}
use Rattle.std.specs.Option.{option_map, option_map_or}
use Rattle.base_list.specs.declared.error.AddFault.TheVariants.{Taken, Full}
use Rattle.acct_totals.specs.declared.op.Op.{Op}
use Rattle.acct_totals.specs.declared.op.Op.TheVariants.{Reserve, Debit, Release}
use Rattle.acct_totals.specs.declared.op.Outcome.{Outcome}
use Rattle.acct_totals.specs.declared.op.Outcome.TheVariants.{Refused}
use Rattle.acct_totals.specs.declared.op.Booked.{Booked}
use Rattle.acct_totals.specs.declared.answer.Quote.{Quote}
use Rattle.acct_totals.specs.declared.answer.Totals.{Totals}
use Rattle.acct_book.specs.declared.error.OpenError.{OpenError}
use Rattle.acct_book.specs.declared.error.OpenError.TheVariants.{NoMemory, TooLarge, Add}
use Rattle.acct_book.specs.declared.limit.TheConstants.{MAX_ACCOUNTS, MAX_GIVEN}
use Rattle.acct_totals.specs.Amounts.{account_of}
use Rattle.acct_totals.specs.Answers.{quote_at, unknown, outcome_at}
use Rattle.acct_book.specs.Sums.{own, own_all, reserved, debited, unpaid}

-- an account and the units that it was opened with
pub record Opened : Type 0 where
  pub id : ℕ
  pub given : ℕ

-- a page of the book: its accounts in the order of their opening, and all that was booked
pub record Book : Type 0 where
  pub accounts : List Opened
  pub journal : List Booked

-- what the account was opened with
abbrev pub given_of : List Opened → ℕ → Option ℕ
given_of accounts account = option_map (λ (o : Opened). o.given) (find (λ (o : Opened). account == o.id) accounts)

-- the sums of the journal for an account that was given so much
abbrev pub sums_of : ℕ → ℕ → List Booked → Totals
sums_of given account journal =
    record {
      given = given;
      reserved = reserved account journal;
      debited = debited account journal;
      unpaid = unpaid account journal;
    }

-- the totals of an account, if it is open
abbrev pub totals_of : Book → ℕ → Option Totals
totals_of book account = option_map (λ given. sums_of given account book.journal) (given_of book.accounts account)

-- the quote of an account to a session and group that used and wants so much
abbrev pub quote_of : Book → ℕ → ℕ → ℕ → ℕ → ℕ → Quote
quote_of book account session group used want =
    option_map_or (λ t. quote_at t (own account session group book.journal) used want) (totals_of book account) unknown

-- the reservation that the operation is on, or those of all groups where it is on a session
abbrev pub own_of : Op → List Booked → ℕ
own_of (Reserve a s g n) journal = own a s g journal
own_of (Debit a s g n) journal = own a s g journal
own_of (Release a s) journal = own_all a s journal
own_of op journal = 0

-- the one outcome that the book allows: an operation on an unknown account is refused
abbrev pub outcome_of : Book → Op → Outcome
outcome_of book op =
    option_map_or (λ t. outcome_at t (own_of op book.journal) op) (totals_of book (account_of op)) Refused

-- the operation with its one outcome
abbrev pub booked_of : Book → Op → Booked
booked_of book op = record { op = op; outcome = outcome_of book op }

-- the book after one more operation
abbrev pub after : Book → Op → Book
after book op = record { accounts = book.accounts; journal = book.journal ++ booked_of book op ∷ [] }

-- the journal without its last entry
abbrev pub without_last : List Booked → List Booked
without_last journal = take (length journal - 1) journal

-- the book before the last operation
abbrev pub taken_back : Book → Book
taken_back book = record { accounts = book.accounts; journal = without_last book.journal }

-- the book with one more account
abbrev pub opened : Book → ℕ → ℕ → Book
opened book id given = record {
  accounts = book.accounts ++ record { id = id; given = given } ∷ [];
  journal = book.journal;
}

-- the refusal of an account: it is open already, then too much is given, then the page is full
abbrev pub refusal_at : Bool → ℕ → ℕ → Option OpenError
refusal_at is_open given accounts =
    if is_open then Some (Add Taken)
    else (if nat_lt MAX_GIVEN given then Some TooLarge
    else (if nat_le MAX_ACCOUNTS accounts then Some (Add Full) else None))

-- the refusal of an account on the page
abbrev pub refusal_of : Book → ℕ → ℕ → Option OpenError
refusal_of book id given = refusal_at (is_some (given_of book.accounts id)) given (length book.accounts)

-- the number of an error: that of its refusal, in their order, and then want of memory
abbrev pub number_of : OpenError → ℕ
number_of (Add Taken) = 1
number_of TooLarge = 2
number_of (Add Full) = 3
number_of NoMemory = 4

-- of no account is more reserved and debited than was given
abbrev pub NeverOver : Book → Type 0
NeverOver book = (account : ℕ) → IfSome (totals_of book account) (λ t. t.reserved + t.debited ≤ t.given)

-- a page: its number among so many, its book, and how many operations it can book without memory
pub record Paged : Type 0 where
  pub number : ℕ
  pub pages : ℕ
  pub book : Book
  pub room : ℕ

-- the page with another book and room
abbrev pub with_book : Paged → Book → ℕ → Paged
with_book page book room = record { number = page.number; pages = page.pages; book = book; room = room }
