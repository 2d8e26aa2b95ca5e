-- One account alone: what the book says of it depends on the operations on it, and on no others.
use Rattle.std.specs.Prelude.{◌≡◌, ℕ, List, ◌==◌, Option}
use Rattle.std.specs.List.{filter}
use Rattle.acct_totals.specs.declared.op.Op.{Op}
use Rattle.acct_totals.specs.declared.op.Booked.{Booked}
use Rattle.acct_totals.specs.declared.slot.Slot.{Slot}
use Rattle.acct_totals.specs.Amounts.{account_of}
use Rattle.acct_book.specs.Sums.{own, own_all, reserved, debited, unpaid}
use Rattle.acct_book.specs.Book.{Book, given_of, totals_of, outcome_of, quote_of}
use Rattle.acct_book.specs.Slots.{quotes_of}

-- the operations on an account, in their order
abbrev pub on_account : ℕ → List Booked → List Booked
on_account account journal = filter (λ b. account_of b.op == account) journal

-- the book with the operations on one account alone
abbrev pub alone : ℕ → Book → Book
alone account book = record { accounts = book.accounts; journal = on_account account book.journal }

-- the account is one and the same in both books: it was given the same, and the operations on it and their outcomes are
-- the same
pub record IsOneAccount (account : ℕ) (b c : Book) : Type 0 where
  pub opened : given_of b.accounts account ≡ given_of c.accounts account
  pub journal : on_account account b.journal ≡ on_account account c.journal

-- the two books say the same of the account
pub record SayTheSame (account : ℕ) (b c : Book) : Type 0 where
  pub reservation : (session group : ℕ) → own account session group b.journal ≡ own account session group c.journal
  pub in_session : (session : ℕ) → own_all account session b.journal ≡ own_all account session c.journal
  pub all_reserved : reserved account b.journal ≡ reserved account c.journal
  pub all_debited : debited account b.journal ≡ debited account c.journal
  pub all_unpaid : unpaid account b.journal ≡ unpaid account c.journal
  pub totals : totals_of b account ≡ totals_of c account
  pub outcome : (op : Op) → account_of op ≡ account → outcome_of b op ≡ outcome_of c op
  pub quote : (session group used want : ℕ)
      → quote_of b account session group used want ≡ quote_of c account session group used want
  pub quotes : (session : ℕ) (slots : List (Option Slot))
      → quotes_of account session b slots ≡ quotes_of account session c slots

-- a book says of an account what it says with the operations on that account alone
abbrev pub AccountAlone : Type 0
AccountAlone = (account : ℕ) (book : Book) → SayTheSame account book (alone account book)

-- two books in which an account is one and the same say the same of it, whatever else is in them
abbrev pub OneAccountSaysTheSame : Type 0
OneAccountSaysTheSame = (account : ℕ) (b c : Book) → IsOneAccount account b c → SayTheSame account b c
