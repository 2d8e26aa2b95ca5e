-- What the account book answers, as facts of a server's event (RFC 8506 sections 5.1.2 and 9).
use Rattle.std.specs.Prelude.{ℕ, ◌+◌, Bool, if◌then◌else◌, List, Option, Some, None, slice_set, slice_index_or}
use Rattle.base_codes.specs.ResultCodes.{number_of}
use Rattle.base_codes.specs.declared.session_fact.TheConstants as f
use Rattle.base_codes.specs.declared.slot.TheConstants as slot
use Rattle.acct_totals.specs.declared.answer.Quote.{Quote}
use Rattle.acct_totals.specs.Slots.{verdict_of_request}
use Rattle.server_rules.specs.Laws.{slot_at}
use Rattle.charge_session.specs.declared.quote.Quotes.{Quotes}
use Rattle.charge_session.specs.declared.quote.Quotes.TheVariants.{One, Several}

-- four numbers side by side from a place on
abbrev pub with_numbers : ℕ → ℕ × ℕ × ℕ × ℕ → List ℕ → List ℕ
with_numbers first numbers facts =
    slice_set (slice_set (slice_set (slice_set facts first numbers.0) (first + 1) numbers.1) (first + 2) numbers.2)
    (first + 3) numbers.3

-- 1 for yes, 0 for no
abbrev pub flag : Bool → ℕ
flag is_so = if is_so then 1 else 0

-- the numbers of a quote: its verdict, the units offered, whether they are the last,
-- the units that can be paid; zeros for none
abbrev pub numbers_of : Option Quote → ℕ × ℕ × ℕ × ℕ
numbers_of None = (0, 0, 0, 0)
numbers_of (Some q) = (number_of q.verdict, q.offer, flag q.is_final, q.pay)

-- a quote from a place on
abbrev pub with_quote : ℕ → Option Quote → List ℕ → List ℕ
with_quote first quote facts = with_numbers first (numbers_of quote) facts

-- the verdict of a request with several services, which has no offer of its own
abbrev pub with_verdict : List (Option Quote) → List ℕ → List ℕ
with_verdict quotes facts = with_numbers f.RESULT_CODE (number_of (verdict_of_request quotes), 0, 0, 0) facts

-- the quote of slot k in its facts
abbrev pub with_slot : List (Option Quote) → ℕ → ℕ → List ℕ → List ℕ
with_slot quotes place k facts = with_quote (slot_at k + slot.RESULT_CODE) (slice_index_or quotes place None) facts

-- the facts of an event with what the book answers
abbrev pub quoted : Quotes → List ℕ → List ℕ
quoted (One quote) facts = with_quote f.RESULT_CODE (Some quote) facts
quoted (Several quotes) facts =
    with_slot quotes 3 4 (with_slot quotes 2 3
    (with_slot quotes 1 2 (with_slot quotes 0 1 (with_verdict quotes facts))))
