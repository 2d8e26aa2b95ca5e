-- What is left of an account while slots are quoted, by numbers alone.
use Rattle.std.specs.Prelude.{ℕ, ◌+◌, List, ◌==◌, if◌then◌else◌, fold, Option, None, Some}
use Rattle.acct_totals.specs.declared.answer.Quote.{Quote}
use Rattle.acct_totals.specs.declared.slot.Slot.{Slot}
use Rattle.acct_totals.specs.Answers.{offer_of, quote_from, unknown}
use Rattle.acct_totals.specs.Slots.{free_after, held_by}
use Rattle.acct_book.specs.Stored.{Stored, standing}

-- what is free, and the reservation of each group
pub record Left : Type 0 where
  pub free : ℕ
  pub own : ℕ → ℕ

-- the funds of a slot: what its group has, and what is free
abbrev pub funds_of : Left → Slot → ℕ
funds_of left slot = left.own slot.group + left.free

-- the quote of a slot out of what is left
abbrev pub quote_in : Left → Option Slot → Option Quote
quote_in left None = None
quote_in left (Some slot) = Some (quote_from (funds_of left slot) slot.used slot.want)

-- what is left once a slot has been served
abbrev pub served : Left → Option Slot → Left
served left None = left
served left (Some slot) = record {
  free = free_after (funds_of left slot) slot;
  own = λ g. if slot.group == g then offer_of (funds_of left slot) slot.used slot.want else left.own g;
}

-- what is kept as a group's reservation, once these slots have been served
abbrev pub own_after : Stored → ℕ → ℕ → List (Option Slot × Option Quote) → ℕ → ℕ
own_after st account session earlier g =
    fold (held_by g) (standing st (record { account = account; session = session; group = g })) earlier

-- what is left, by what is kept and the slots that have been served
abbrev pub left_of : Stored → ℕ → ℕ → ℕ → List (Option Slot × Option Quote) → Left
left_of st account session free earlier = record { free = free; own = own_after st account session earlier }

-- the quote of a slot on an account that isn't open
abbrev pub unknown_in : Option Slot → Option Quote
unknown_in None = None
unknown_in (Some slot) = Some unknown
