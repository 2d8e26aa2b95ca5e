-- What a journal says of an account and of a reservation: sums over the flat list.
use Rattle.std.specs.Prelude.{ℕ, ◌+◌, ◌-◌, List, [], ◌∷◌, ◌==◌, Bool, false, ◌&&◌, if◌then◌else◌, sum_by}
use Rattle.std.specs.List.{list_any, after_last}
use Rattle.acct_totals.specs.declared.op.Op.{Op}
use Rattle.acct_totals.specs.declared.op.Op.TheVariants.{Reserve, Debit, Release, Charge, Refund}
use Rattle.acct_totals.specs.declared.op.Booked.{Booked}
use Rattle.acct_totals.specs.Amounts.{amount_of, unpaid_of}

-- the two are one account, session and group
abbrev pub is_same : ℕ → ℕ → ℕ → ℕ → ℕ → ℕ → Bool
is_same account session group a s g = (a == account) && ((s == session) && (g == group))

-- whether the operation ends the reservation: a Debit of this account, session and group, or a Release of this account
-- and session
abbrev pub ends : ℕ → ℕ → ℕ → Op → Bool
ends account session group (Debit a s g n) = is_same account session group a s g
ends account session group (Release a s) = (a == account) && (s == session)
ends account session group op = false

-- what was reserved by a Reserve whose account, session and group pass the test
abbrev pub reserved_where : (ℕ → ℕ → ℕ → Bool) → Booked → ℕ
reserved_where test b = of b.op
  where
    of : Op → ℕ
    of (Reserve a s g n) = if test a s g then amount_of b.outcome else 0
    of op = 0

-- a reservation: the sum of the Reserve amounts of this account, session and group after the last Debit or Release that
-- ends it
unfoldable pub own : ℕ → ℕ → ℕ → List Booked → ℕ
own account session group journal =
    sum_by (reserved_where (is_same account session group)) (after_last (λ b. ends account session group b.op) journal)

-- whether a later Debit or Release ends what the operation reserved
abbrev pub is_ended : Op → List Booked → Bool
is_ended (Reserve a s g n) later = list_any (λ b. ends a s g b.op) later
is_ended op later = false

-- the reservations that pass the test: the Reserve amounts that no later Debit or Release ends
unfoldable pub left_where : (ℕ → ℕ → ℕ → Bool) → List Booked → ℕ
left_where test [] = 0
left_where test (b ∷ later) = (if is_ended b.op later then 0 else reserved_where test b) + left_where test later

-- all reservations on the account
abbrev pub reserved : ℕ → List Booked → ℕ
reserved account journal = left_where (λ a s g. a == account) journal

-- all reservations of the session, whatever their group
abbrev pub own_all : ℕ → ℕ → List Booked → ℕ
own_all account session journal = left_where (λ a s g. (a == account) && (s == session)) journal

-- what was paid by a Debit or a Charge of the account
abbrev pub paid_by : ℕ → Booked → ℕ
paid_by account b = of b.op
  where
    of : Op → ℕ
    of (Debit a s g n) = if a == account then amount_of b.outcome else 0
    of (Charge a n) = if a == account then amount_of b.outcome else 0
    of op = 0

-- what was given back by a Refund of the account
abbrev pub refunded_by : ℕ → Booked → ℕ
refunded_by account b = of b.op
  where
    of : Op → ℕ
    of (Refund a n) = if a == account then amount_of b.outcome else 0
    of op = 0

-- the sum of the account's Debit and Charge amounts less its Refund amounts
unfoldable pub debited : ℕ → List Booked → ℕ
debited account journal = sum_by (paid_by account) journal - sum_by (refunded_by account) journal

-- what a Debit of the account left unpaid
abbrev pub unpaid_by : ℕ → Booked → ℕ
unpaid_by account b = of b.op
  where
    of : Op → ℕ
    of (Debit a s g n) = if a == account then unpaid_of b.outcome else 0
    of op = 0

-- the sum of the second amounts of the account's Debits
unfoldable pub unpaid : ℕ → List Booked → ℕ
unpaid account journal = sum_by (unpaid_by account) journal
