-- Which account an operation is on, and what its outcome moved.
use Rattle.std.specs.Prelude.{ℕ}
use Rattle.acct_totals.specs.declared.op.Op.{Op}
use Rattle.acct_totals.specs.declared.op.Op.TheVariants.{Reserve, Debit, Release, Charge, Refund}
use Rattle.acct_totals.specs.declared.op.Outcome.{Outcome}
use Rattle.acct_totals.specs.declared.op.Outcome.TheVariants.{Done, Refused}

-- the account that the operation is on
abbrev pub account_of : Op → ℕ
account_of (Reserve a s g n) = a
account_of (Debit a s g n) = a
account_of (Release a s) = a
account_of (Charge a n) = a
account_of (Refund a n) = a

-- the units that were moved: none where the operation was refused
abbrev pub amount_of : Outcome → ℕ
amount_of (Done amount unpaid) = amount
amount_of Refused = 0

-- the used units that could not be paid
abbrev pub unpaid_of : Outcome → ℕ
unpaid_of (Done amount unpaid) = unpaid
unpaid_of Refused = 0
