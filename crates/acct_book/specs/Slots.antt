-- The quotes of the services of one request, slot by slot.
use Rattle.std.specs.Prelude.{ℕ, List, [], ◌∷◌, Option, None, Some}
use Rattle.acct_totals.specs.declared.op.Op.TheVariants.{Reserve, Debit}
use Rattle.acct_totals.specs.declared.answer.Quote.{Quote}
use Rattle.acct_totals.specs.declared.slot.Slot.{Slot}
use Rattle.acct_book.specs.Book.{Book, quote_of, after}

-- the quote of a slot: none where it has no service
abbrev pub slot_quote : ℕ → ℕ → Book → Option Slot → Option Quote
slot_quote account session book None = None
slot_quote account session book (Some slot) = Some (quote_of book account session slot.group slot.used slot.want)

-- the book once a slot has been served: what it used is paid, and then what it is offered is reserved
abbrev pub after_slot : ℕ → ℕ → Book → Option Slot → Book
after_slot account session book None = book
after_slot account session book (Some slot) =
    after (after book (Debit account session slot.group slot.used))
    (Reserve account session slot.group (quote_of book account session slot.group slot.used slot.want).offer)

-- the quote of each slot, on the book once the earlier slots have been served
abbrev pub quotes_of : ℕ → ℕ → Book → List (Option Slot) → List (Option Quote)
quotes_of account session book [] = []
quotes_of account session book (slot ∷ slots) =
    slot_quote account session book slot ∷ quotes_of account session (after_slot account session book slot) slots
