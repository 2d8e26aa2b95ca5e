-- What an account with given totals answers.
use Rattle.std.specs.Prelude.{ℕ, ◌+◌, ◌-◌, min, ◌==◌, Bool, false, nat_le, nat_lt, ◌&&◌, ◌||◌, if◌then◌else◌}
use Rattle.base_codes.specs.declared.result_code.ResultCode.{ResultCode}
use Rattle.base_codes.specs.declared.result_code.ResultCode.TheVariants.{Success, CreditLimitReached, UserUnknown}
use Rattle.acct_totals.specs.declared.op.Op.{Op}
use Rattle.acct_totals.specs.declared.op.Op.TheVariants.{Reserve, Debit, Release, Charge, Refund}
use Rattle.acct_totals.specs.declared.op.Outcome.{Outcome}
use Rattle.acct_totals.specs.declared.op.Outcome.TheVariants.{Done, Refused}
use Rattle.acct_totals.specs.declared.answer.Quote.{Quote}
use Rattle.acct_totals.specs.declared.answer.Totals.{Totals}

-- free = given - debited - reserved
abbrev pub free_of : Totals → ℕ
free_of t = t.given - t.debited - t.reserved

-- pay = min(used, funds), where the funds of a reservation are own + free
abbrev pub pay_of : ℕ → ℕ → ℕ
pay_of funds used = min used funds

-- left = funds - pay
abbrev pub left_of : ℕ → ℕ → ℕ
left_of funds used = funds - pay_of funds used

-- offer = min(want, left)
abbrev pub offer_of : ℕ → ℕ → ℕ → ℕ
offer_of funds used want = min want (left_of funds used)

-- success where something is offered or nothing is wanted, else the credit limit is reached
abbrev pub verdict_of : ℕ → ℕ → ResultCode
verdict_of want offer = if nat_le 1 offer || (want == 0) then Success else CreditLimitReached

-- the last units: something is offered, and it is less than is wanted or all that is left
abbrev pub is_last : ℕ → ℕ → ℕ → Bool
is_last want left offer = nat_le 1 offer && (nat_lt offer want || (left == offer))

-- the quote out of these funds
abbrev pub quote_from : ℕ → ℕ → ℕ → Quote
quote_from funds used want = record {
  verdict = verdict_of want (offer_of funds used want);
  offer = offer_of funds used want;
  is_final = is_last want (left_of funds used) (offer_of funds used want);
  pay = pay_of funds used;
}

-- the quote of an account with these totals and this reservation
abbrev pub quote_at : Totals → ℕ → ℕ → ℕ → Quote
quote_at t own used want = quote_from (own + free_of t) used want

-- the quote of an unknown account
abbrev pub unknown : Quote
unknown = record { verdict = UserUnknown; offer = 0; is_final = false; pay = 0 }

-- the outcome of an operation on an account with these totals and this reservation
abbrev pub outcome_at : Totals → ℕ → Op → Outcome
outcome_at t own (Reserve a s g n) = if nat_le n (free_of t) then Done n 0 else Refused
outcome_at t own (Debit a s g used) = Done (pay_of (own + free_of t) used) (used - pay_of (own + free_of t) used)
outcome_at t own (Release a s) = Done own 0
outcome_at t own (Charge a n) = if nat_le n (free_of t) then Done n 0 else Refused
outcome_at t own (Refund a n) = Done (min n t.debited) 0
