-- The services of one request, quoted one after the other.
use Rattle.std.specs.Prelude.{ℕ, ◌-◌, List, ◌==◌, Bool, false, if◌then◌else◌, Option, None, Some}
use Rattle.std.specs.List.{list_any}
use Rattle.base_codes.specs.ResultCodes.{number_of}
use Rattle.base_codes.specs.declared.result_code.ResultCode.{ResultCode}
use Rattle.base_codes.specs.declared.result_code.ResultCode.TheVariants.{Success, CreditLimitReached, UserUnknown}
use Rattle.acct_totals.specs.declared.answer.Quote.{Quote}
use Rattle.acct_totals.specs.declared.slot.Slot.{Slot}
use Rattle.acct_totals.specs.Answers.{left_of, offer_of}

-- what is free once a slot has been served out of these funds: what is left, less the offer
abbrev pub free_after : ℕ → Slot → ℕ
free_after funds slot = left_of funds slot.used - offer_of funds slot.used slot.want

-- a group's reservation once a slot has been served: the offer where the slot is of that group
abbrev pub held_by : ℕ → ℕ → Option Slot × Option Quote → ℕ
held_by group held earlier = of earlier.0 earlier.1
  where
    of : Option Slot → Option Quote → ℕ
    of (Some slot) (Some quote) = if slot.group == group then quote.offer else held
    of (Some slot) None = held
    of None quote = held

-- whether a quote's verdict has this number
abbrev pub is_numbered : ℕ → Option Quote → Bool
is_numbered number None = false
is_numbered number (Some quote) = number_of quote.verdict == number

-- the verdict of a whole request: 5030 where a slot's is that, else 2001 where a slot's is, else 4012
abbrev pub verdict_of_request : List (Option Quote) → ResultCode
verdict_of_request quotes =
    if list_any (is_numbered 5030) quotes then UserUnknown
    else (if list_any (is_numbered 2001) quotes then Success else CreditLimitReached)
