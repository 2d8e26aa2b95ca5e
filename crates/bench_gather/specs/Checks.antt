-- What is looked at of the parts of a bench, entry by entry.
use Rattle.std.specs.Prelude.{ℕ, ◌+◌, ◌%◌, ◌==◌, ◌&&◌, nat_le, Bool, true, false, List, [], ◌∷◌, fold, length, map}
use Rattle.std.specs.Prelude.{take}
use Rattle.std.specs.Prelude.{flat_map, is_some, Option, Some, None, slice_get, if◌then◌else◌}
use Rattle.std.specs.List.{list_all}
use Rattle.std.specs.Str.{bytes_eq}
use Rattle.acct_book.specs.Book.{Paged}
use Rattle.acct_totals.specs.Amounts.{account_of}
use Rattle.acct_totals.specs.declared.op.Booked.{Booked}
use Rattle.acct_totals.specs.declared.op.Op.{Op}
use Rattle.acct_totals.specs.declared.op.Op.TheVariants.{Charge, Debit, Refund, Release, Reserve}
use Rattle.acct_totals.specs.declared.op.Outcome.{Outcome}
use Rattle.acct_totals.specs.declared.op.Outcome.TheVariants.{Done, Refused}
use Rattle.bench_item.specs.declared.entry.Entry.{Entry}
use Rattle.bench_item.specs.declared.source.Source.TheVariants.{Desk, Line}
use Rattle.bench_item.specs.declared.step.Step.{Step}
use Rattle.bench_item.specs.declared.step.Step.TheVariants.{Joined, Dialled, Came, Lost, Told, Lift, Drop}
use Rattle.bench_merge.specs.Order.{of_part}
use Rattle.bench_merge.specs.declared.merging.Placed.{Placed}
use Rattle.bench_spec.specs.Items.{desk_posts, dropped, lifted}
use Rattle.bench_spec.specs.Merged.{Did, Kept, Saw, is_fed}
use Rattle.bench_gather.specs.Ordered.{entries_by}
use Rattle.bench_gather.specs.declared.tells.Carried.{Carried}

-- an operation with its outcome
abbrev pub pair_of : Op × Outcome → Booked
pair_of pair = record { op = pair.0; outcome = pair.1 }

-- whether two of them are one
abbrev pub is_same_op : Op → Op → Bool
is_same_op (Reserve a b c d) (Reserve e f g h) = (((a == e) && (b == f)) && (c == g)) && (d == h)
is_same_op (Debit a b c d) (Debit e f g h) = (((a == e) && (b == f)) && (c == g)) && (d == h)
is_same_op (Release a b) (Release e f) = (a == e) && (b == f)
is_same_op (Charge a b) (Charge e f) = (a == e) && (b == f)
is_same_op (Refund a b) (Refund e f) = (a == e) && (b == f)
is_same_op one other = false

abbrev pub is_same_outcome : Outcome → Outcome → Bool
is_same_outcome (Done a b) (Done e f) = (a == e) && (b == f)
is_same_outcome Refused Refused = true
is_same_outcome one other = false

abbrev pub is_same_booked : Booked → Booked → Bool
is_same_booked one other = is_same_op one.op other.op && is_same_outcome one.outcome other.outcome

-- whether one is on a page, of so many; and the journal of a page
abbrev pub is_on_page : ℕ → ℕ → Booked → Bool
is_on_page pages page booked = account_of booked.op % pages == page

abbrev pub journal_of : Paged → List Booked
journal_of page = page.book.journal

-- looks stand in the parts of desks alone: those before them have none
abbrev pub is_did : Kept → Bool
is_did (Did stamped) = true
is_did (Saw look) = false

abbrev pub looks_stand : ℕ → List (List Kept) → Bool
looks_stand shards parts = list_all (λ kept. list_all is_did kept) (take (shards + 2) parts)

-- the steps of entries; of those of a part in an order, and of what stands at a place where that is one of the part
abbrev pub steps_of : List Entry → List Step
steps_of entries = map (λ e. e.step) entries

abbrev pub desk_steps : List (List Kept) → ℕ → List Placed → List Step
desk_steps parts part order = steps_of (entries_by parts (of_part part order))

abbrev pub steps_at : List (List Kept) → ℕ → Placed → List Step
steps_at parts part at = desk_steps parts part (at ∷ [])

-- a Told opens a tell, and a Lift ends it; none where another step stands
abbrev pub opens : ℕ → Step → Option Bool
opens desk (Told own key event) = if own == desk then Some true else None
opens desk step = None

abbrev pub ends : ℕ → Step → Option Bool
ends desk (Lift (Desk own)) = if own == desk then Some false else None
ends desk step = None

abbrev pub next_tell : ℕ → Option Bool → Step → Option Bool
next_tell desk None step = None
next_tell desk (Some false) step = opens desk step
next_tell desk (Some true) step = ends desk step

-- whether steps are the tells of a desk
abbrev pub is_ended : Option Bool → Bool
is_ended (Some false) = true
is_ended begun = false

abbrev pub are_tells : ℕ → List Step → Bool
are_tells desk steps = is_ended (fold (next_tell desk) (Some false) steps)

-- whether an entry is a tell of a desk, lifts an item from it, or drops one
abbrev pub is_told_by : ℕ → Entry → Bool
is_told_by desk e = by e.step
  where
    by : Step → Bool
    by (Told own key event) = own == desk
    by step = false

abbrev pub is_lift_of : ℕ → Entry → Bool
is_lift_of desk e = by e.step
  where
    by : Step → Bool
    by (Lift (Desk own)) = (own == desk) && is_some e.item
    by step = false

abbrev pub is_drop_of : ℕ → Entry → Bool
is_drop_of desk e = by e.step
  where
    by : Step → Bool
    by (Drop (Desk own)) = (own == desk) && is_some e.item
    by step = false

-- how many items a desk told, and how many of them were lifted and dropped; and whether nothing of it is on its way
abbrev pub counts : ℕ → List Entry → Carried
counts desk es = record {
  told = length (flat_map (λ e. desk_posts desk e.step) es);
  lifted = length (lifted es (Desk desk));
  dropped = length (dropped es (Desk desk));
}

abbrev pub is_done : ℕ → List Entry → Bool
is_done desk es =
    nat_le (counts desk es).told (counts desk es).lifted && nat_le (counts desk es).lifted (counts desk es).dropped

-- whether two steps that are fed are one
abbrev pub is_same_fed : Step → Step → Bool
is_same_fed Joined Joined = true
is_same_fed (Dialled a) (Dialled b) = a == b
is_same_fed (Came a one) (Came b other) = (a == b) && bytes_eq one other
is_same_fed (Lost a) (Lost b) = a == b
is_same_fed (Lift (Line a)) (Lift (Line b)) = a == b
is_same_fed (Drop (Line a)) (Drop (Line b)) = a == b
is_same_fed one other = false

-- so many of the steps that were fed are met; none where another one is
abbrev pub meets_at : Option Step → ℕ → Step → Option ℕ
meets_at None met step = None
meets_at (Some own) met step = if is_same_fed own step then Some (met + 1) else None

abbrev pub meets : List Step → Option ℕ → Step → Option ℕ
meets fed None step = None
meets fed (Some met) step = if is_fed step then meets_at (slice_get fed met) met step else Some met

abbrev pub is_met : ℕ → Option ℕ → Bool
is_met count None = false
is_met count (Some met) = met == count

abbrev pub are_fed : List Step → List Step → Bool
are_fed fed steps = is_met (length fed) (fold (meets fed) (Some 0) steps)
