-- What the entries of a log booked, and what the account book must answer them.
use Rattle.std.specs.Prelude.{◌==◌, Bool, List, [], ◌∷◌, map, filter, filter_map, flat_map, length, replicate, zip}
use Rattle.std.specs.Prelude.{Option, Some, None, option_map, option_and_then, option_to_list, slice_get}
use Rattle.std.specs.List.{list_any}
use Rattle.acct_book.specs.Book.{Book, after, outcome_of, quote_of}
use Rattle.acct_book.specs.Slots.{quotes_of}
use Rattle.acct_totals.specs.declared.op.Booked.{Booked}
use Rattle.acct_totals.specs.declared.op.Op.{Op}
use Rattle.acct_totals.specs.declared.op.Outcome.{Outcome}
use Rattle.acct_totals.specs.declared.op.Outcome.TheVariants.{Refused}
use Rattle.base_codes.specs.DeedCodes.{number_of}
use Rattle.base_codes.specs.declared.deed_code.DeedCode.TheVariants.{Reserve, Debit, Release, Charge, Refund}
use Rattle.base_list.specs.Named.{place_of}
use Rattle.charge_session.specs.Deeds.{op_of}
use Rattle.charge_session.specs.Quotes.{quoted}
use Rattle.charge_session.specs.declared.quote.Quotes.{Quotes}
use Rattle.charge_session.specs.declared.quote.Quotes.TheVariants as quotes
use Rattle.server_rules.specs.Kinds.{kinds}
use Rattle.charge_session.specs.Wants.{needs}
use Rattle.charge_session.specs.declared.want.ServiceUnits.{ServiceUnits}
use Rattle.charge_session.specs.declared.want.ServiceUnits.TheVariants.{One, Several}
use Rattle.charge_session.specs.declared.want.Want.{Want}
use Rattle.tab_law.specs.Books.{Laws}
use Rattle.tab_law.specs.declared.scene.Deed.{Deed}
use Rattle.tab_step.specs.declared.machine.Event.{Event}
use Rattle.tab_step.specs.declared.machine.MachineState.{MachineState}
use Rattle.bench_item.specs.declared.entry.Entry.{Entry}
use Rattle.bench_item.specs.declared.entry.Moved.{Moved}
use Rattle.bench_item.specs.declared.item.MachineItem.{MachineItem}
use Rattle.bench_item.specs.declared.key.Role.{Role}
use Rattle.bench_item.specs.declared.key.Role.TheVariants.{Server}
use Rattle.bench_item.specs.Entries.{moved_in}
use Rattle.bench_spec.specs.Machines.{machine_item}
use Rattle.bench_spec.specs.Settings.{Settings}

-- the same event with its kind's place in the laws of a server, if it is one of these kinds
abbrev pub as_server_event : Laws → Event → Option Event
as_server_event laws event =
    option_map (λ kind. record { kind = kind; facts = event.facts })
    (option_and_then (λ entry. place_of entry.name kinds) (slice_get laws.kinds event.kind))

-- what an item asks of the account book in a machine: only a server's session asks something (RFC 8506 sections 5 and
-- 6)
abbrev pub want_of : Laws → MachineItem → MachineState → Option Want
want_of laws item state = by item.key.role
  where
    by : Role → Option Want
    by Server = option_and_then (λ event. needs event state) (as_server_event laws item.event)
    by role = None

-- whether a deed is one of the book
abbrev pub is_booking : Deed → Bool
is_booking deed = list_any (λ code. number_of code == deed.code) (Reserve ∷ Debit ∷ Release ∷ Charge ∷ Refund ∷ [])

-- the operations of deeds that came of an item that asked this: none where it asked nothing
abbrev pub ops_of : Option Want → List Deed → List Op
ops_of None deeds = []
ops_of (Some want) deeds = filter_map (op_of want) deeds

-- what a move that an item led to booked: its operations with their outcomes
abbrev pub booked_by : Laws → MachineItem → Moved → List Booked
booked_by laws item moved =
    map (λ p. record { op = p.0; outcome = p.1 })
    (zip (ops_of (want_of laws item moved.before) moved.deeds) moved.outcomes)

abbrev pub booked_in : Laws → Entry → List Booked
booked_in laws e =
    flat_map (λ moved. flat_map (λ item. booked_by laws item moved) (flat_map machine_item (option_to_list e.item)))
    (moved_in e)

-- the journal of the book: all that the log booked
abbrev pub booked : Laws → List Entry → List Booked
booked laws log = flat_map (booked_in laws) log

-- the book at a log
abbrev pub book_at : Settings → List Entry → Book
book_at settings log = record { accounts = settings.accounts; journal = booked settings.node.laws log }

-- what the book says to what is asked: a quote, or one of each service (RFC 8506 section 5.1.2)
abbrev pub quotes_for : Book → Want → Quotes
quotes_for book want = by want.asked
  where
    by : ServiceUnits → Quotes
    by (One slot) = quotes.One (quote_of book want.account want.session slot.group slot.used slot.want)
    by (Several slots) = quotes.Several (quotes_of want.account want.session book slots)

-- the event as which an item is handled: with the book's quote among its facts, where it asks for one
abbrev pub event_with_quote : Book → Option Want → Event → Event
event_with_quote book None event = event
event_with_quote book (Some want) event =
    record { kind = event.kind; facts = quoted (quotes_for book want) event.facts }

-- the outcomes that the book allows to operations, one after the other
abbrev pub outcomes_of : Book → List Op → List Outcome
outcomes_of book [] = []
outcomes_of book (op ∷ ops) = outcome_of book op ∷ outcomes_of (after book op) ops

-- the outcomes of a move's deeds of the book: where nothing was asked, each is refused
abbrev pub outcomes_for : Book → Option Want → List Deed → List Outcome
outcomes_for book None deeds = replicate (length (filter is_booking deeds)) Refused
outcomes_for book (Some want) deeds = outcomes_of book (ops_of (Some want) deeds)
