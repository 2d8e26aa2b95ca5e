-- What an operation leaves of an account's totals, once its outcome is known.
use Rattle.std.specs.Prelude.{◌≡◌, ◌≤◌, ◌^◌, ℕ, ◌+◌, ◌-◌}
use Rattle.acct_totals.specs.declared.op.Op.{Op}
use Rattle.acct_totals.specs.declared.op.Op.TheVariants.{Reserve, Debit, Release, Charge, Refund}
use Rattle.acct_totals.specs.declared.op.Outcome.{Outcome}
use Rattle.acct_totals.specs.declared.answer.Totals.{Totals}
use Rattle.acct_totals.specs.Amounts.{amount_of, unpaid_of}

-- the reservation is part of what is reserved, no more is reserved and debited than given, and all sums fit 64 bits
pub record IsSound (t : Totals) (held : ℕ) : Type 0 where
  pub part : held ≤ t.reserved
  pub within : t.reserved + t.debited ≤ t.given
  pub small : t.given ≤ 2 ^ 62

-- what is reserved after the operation
abbrev pub reserved_after : ℕ → ℕ → Op → Outcome → ℕ
reserved_after reserved held (Reserve a s g n) outcome = reserved + amount_of outcome
reserved_after reserved held (Debit a s g n) outcome = reserved - held
reserved_after reserved held (Release a s) outcome = reserved - held
reserved_after reserved held op outcome = reserved

-- what is debited after the operation
abbrev pub debited_after : ℕ → Op → Outcome → ℕ
debited_after debited (Debit a s g n) outcome = debited + amount_of outcome
debited_after debited (Charge a n) outcome = debited + amount_of outcome
debited_after debited (Refund a n) outcome = debited - amount_of outcome
debited_after debited op outcome = debited

-- what is unpaid after the operation
abbrev pub unpaid_after : ℕ → Op → Outcome → ℕ
unpaid_after unpaid (Debit a s g n) outcome = unpaid + unpaid_of outcome
unpaid_after unpaid op outcome = unpaid

-- the totals after the operation
abbrev pub totals_after : Totals → ℕ → Op → Outcome → Totals
totals_after t held op outcome = record {
  given = t.given;
  reserved = reserved_after t.reserved held op outcome;
  debited = debited_after t.debited op outcome;
  unpaid = unpaid_after t.unpaid op outcome;
}

-- the totals before the operation that left these
abbrev pub totals_before : Totals → ℕ → Op → Outcome → Totals
totals_before t held (Reserve a s g n) outcome = record {
  given = t.given;
  reserved = t.reserved - amount_of outcome;
  debited = t.debited;
  unpaid = t.unpaid;
}
totals_before t held (Debit a s g n) outcome =
    record {
      given = t.given;
      reserved = t.reserved + held;
      debited = t.debited - amount_of outcome;
      unpaid = t.unpaid - unpaid_of outcome;
    }
totals_before t held (Release a s) outcome = record {
  given = t.given;
  reserved = t.reserved + held;
  debited = t.debited;
  unpaid = t.unpaid;
}
totals_before t held (Charge a n) outcome = record {
  given = t.given;
  reserved = t.reserved;
  debited = t.debited - amount_of outcome;
  unpaid = t.unpaid;
}
totals_before t held (Refund a n) outcome = record {
  given = t.given;
  reserved = t.reserved;
  debited = t.debited + amount_of outcome;
  unpaid = t.unpaid;
}

-- the totals are what the operation left of sound ones
pub record IsLeft (t : Totals) (held : ℕ) (op : Op) (outcome : Outcome) : Type 0 where
  pub left : t ≡ totals_after (totals_before t held op outcome) held op outcome
  pub sound : IsSound (totals_before t held op outcome) 0
