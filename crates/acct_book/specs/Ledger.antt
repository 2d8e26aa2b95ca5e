-- What the ledger keeps beside the journal, and how the two hang together.
use Rattle.std.specs.Prelude.{◌≡◌, ◌<◌, ◌≤◌, ◌^◌, ◌*◌, ℕ, ◌+◌, List, [], ◌∷◌, ◌==◌, if◌then◌else◌, nat_eq, Option}
use Rattle.std.specs.Prelude.{None, Some, unwrap_or, sum_by, map, reverse, length, vec_len, vec_capacity}
use Rattle.std.specs.declared.hash.FoldHasher.{FoldHasher}
use Rattle.std.specs.declared.hash.BuildHasherDefault.{BuildHasherDefault}
use Rattle.indexmap.specs.IndexMap.{IndexMap, get, spare}
use Rattle.acct_totals.specs.declared.op.Op.{Op}
use Rattle.acct_totals.specs.declared.op.Op.TheVariants.{Reserve, Debit, Release}
use Rattle.acct_totals.specs.declared.op.Outcome.{Outcome}
use Rattle.acct_totals.specs.declared.op.Booked.{Booked}
use Rattle.acct_totals.specs.declared.answer.Totals.{Totals}
use Rattle.acct_book.specs.declared.holder.Holder.{Holder}
use Rattle.acct_book.specs.declared.holder.Session.{Session}
use Rattle.acct_book.specs.declared.holds.Before.{Before}
use Rattle.acct_book.specs.declared.ledger.Ledger.{Ledger}
use Rattle.acct_totals.specs.Amounts.{account_of}
use Rattle.acct_book.specs.Sums.{own, own_all, paid_by, refunded_by}
use Rattle.acct_book.specs.Book.{Opened, Book, sums_of, given_of}
use Rattle.acct_totals.specs.Kept.{totals_after, totals_before}
use Rattle.acct_book.specs.Stored.{Stored, stored_of, standing, session_of, step_of, undone, IsPlaced}

abbrev pub Accounts : Type 0
Accounts = IndexMap ℕ Totals (BuildHasherDefault FoldHasher)

-- what is kept as the reservation that the operation is on, or as those of its session
abbrev pub held_on : Stored → Op → ℕ
held_on st (Reserve a s g n) = standing st (record { account = a; session = s; group = g })
held_on st (Debit a s g n) = standing st (record { account = a; session = s; group = g })
held_on st (Release a s) = (st.of (record { account = a; session = s })).total
held_on st op = 0

-- the totals of an account that isn't open
abbrev pub none : Totals
none = record { given = 0; reserved = 0; debited = 0; unpaid = 0 }

-- what is kept as an account's totals: nothing where it isn't open
abbrev pub kept : Accounts → ℕ → Totals
kept accounts account = unwrap_or (get nat_eq accounts account) none

-- the accounts as the book shows them
abbrev pub opened_of : Accounts → List Opened
opened_of accounts = map (λ (e : ℕ × Totals). record { id = e.0; given = e.1.given }) accounts.entries

-- the book that the ledger is
abbrev pub book_of : Ledger → Book
book_of l = record { accounts = opened_of l.accounts; journal = l.journal.items }

-- the totals of an account are the sums of the journal, and these are within what was given
pub record IsSummedFor (account : ℕ) (t : Totals) (journal : List Booked) : Type 0 where
  pub sums : t ≡ sums_of t.given account journal
  pub within : t.reserved + t.debited ≤ t.given
  pub refunds : sum_by (refunded_by account) journal ≤ sum_by (paid_by account) journal

-- what holds of an account's totals after a journal
pub record IsKeptFor (account : ℕ) (t : Totals) (journal : List Booked) : Type 0 where
  pub summed : IsSummedFor account t journal
  pub small : t.given ≤ 2 ^ 62
  pub few : t.unpaid ≤ 2 ^ 64 * length journal

-- what is stored are the sums of the journal
pub record IsStored (st : Stored) (journal : List Booked) : Type 0 where
  pub own : (h : Holder) → standing st h ≡ own h.account h.session h.group journal
  pub total : (t : Session) → (st.of t).total ≡ own_all t.account t.session journal
  pub fresh : (h : Holder) → (st.at h).round ≤ (st.of (session_of h)).over + 1
  pub few : (t : Session) → (st.of t).over ≤ length journal

-- what an operation wrote is there
abbrev pub IsMarked : Stored → Op → Option Before → Type 0
IsMarked st (Reserve a s g n) (Some b) = 0 < (st.at (record { account = a; session = s; group = g })).round
IsMarked st (Debit a s g n) (Some b) = 0 < (st.at (record { account = a; session = s; group = g })).round
IsMarked st (Release a s) (Some b) = 0 < (st.of (record { account = a; session = s })).over
IsMarked st op before = Unit {0}

-- the fact holds of a journal and of each before it; the last entry stands first
abbrev pub EachBack : (List Booked → Type 0) → List Booked → Type 0
EachBack P [] = P []
EachBack P (b ∷ bs) = P (reverse (b ∷ bs)) × EachBack P bs

-- what is stored are the sums of the journal, and so it is with each entry's change put back, the last first
abbrev pub IsStoredBack : Stored → List Booked → List (Option Before) → Type 0
IsStoredBack st [] befores = IsStored st []
IsStoredBack st (b ∷ bs) [] = ⊥
IsStoredBack st (b ∷ bs) (w ∷ ws) =
    IsStored st (reverse (b ∷ bs)) × (IsMarked st b.op w × IsStoredBack (undone st b.op w) bs ws)

-- so many more operations can be booked without memory
pub record HasRoom (l : Ledger) (n : ℕ) : Type 0 where
  pub entries : vec_len l.journal + n ≤ vec_capacity l.journal
  pub befores : vec_len l.befores + n ≤ vec_capacity l.befores
  pub reservations : n ≤ spare l.holds.reservations
  pub sessions : n ≤ spare l.holds.sessions

-- all that is kept are sums of the journal, now and as each operation is put back, and no account is 0
pub record IsKept (l : Ledger) : Type 0 where
  pub totals : (account : ℕ) → IsKeptFor account (kept l.accounts account) l.journal.items
  pub past : (account : ℕ) → EachBack (λ journal. IsKeptFor account
      (sums_of (kept l.accounts account).given account journal) journal) (reverse l.journal.items)
  pub stored : IsStoredBack (stored_of l.holds) (reverse l.journal.items) (reverse l.befores.items)
  pub placed : IsPlaced l.holds
  pub zero : given_of (opened_of l.accounts) 0 ≡ None
  pub room : HasRoom l l.room

-- the operation has been carried out in the totals and reservations that are kept
pub record Settles (old : Ledger) (op : Op) (outcome : Outcome) (before : Option Before) (new : Ledger) : Type 0 where
  pub opened : opened_of new.accounts ≡ opened_of old.accounts
  pub totals : (account : ℕ) → kept new.accounts account
      ≡ (if account_of op == account then totals_after (kept old.accounts account) (held_on (stored_of old.holds) op) op
      outcome
      else kept old.accounts account)
  pub stored : stored_of new.holds ≡ (step_of (stored_of old.holds) op outcome).0
  pub before_is : before ≡ (step_of (stored_of old.holds) op outcome).1
  pub placed : IsPlaced new.holds
  pub journal : new.journal ≡ old.journal
  pub befores : new.befores ≡ old.befores
  pub left : new.room ≡ old.room
  pub reservations : spare old.holds.reservations ≤ spare new.holds.reservations + 1
  pub sessions : spare old.holds.sessions ≤ spare new.holds.sessions + 1

-- the operation has been undone in the totals and reservations that are kept
pub record IsUndone (old : Ledger) (op : Op) (outcome : Outcome) (before : Option Before) (new : Ledger) : Type 0 where
  pub opened : opened_of new.accounts ≡ opened_of old.accounts
  pub totals : (account : ℕ) → kept new.accounts account
      ≡ (if account_of op == account then totals_before (kept old.accounts account)
      (held_on (undone (stored_of old.holds) op before) op) op outcome
      else kept old.accounts account)
  pub stored : stored_of new.holds ≡ undone (stored_of old.holds) op before
  pub placed : IsPlaced new.holds

-- and all else has stayed
pub record Unsettles (old : Ledger) (op : Op) (outcome : Outcome) (before : Option Before) (new : Ledger) : Type 0 where
  pub undoes : IsUndone old op outcome before new
  pub journal : new.journal ≡ old.journal
  pub befores : new.befores ≡ old.befores
  pub left : new.room ≡ old.room
  pub reservations : spare new.holds.reservations ≡ spare old.holds.reservations
  pub sessions : spare new.holds.sessions ≡ spare old.holds.sessions
