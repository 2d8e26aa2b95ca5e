-- What takes a step back.
use Rattle.std.specs.Prelude.{ℕ, ◌-◌, suc, length, take}
use Rattle.acct_book.specs.Book.{Book}
use Rattle.tick_wheel.specs.Timers.{with_timer}
use Rattle.bench_item.specs.declared.source.Source.{Source}
use Rattle.bench_item.specs.declared.source.Source.TheVariants.{Clock, Desk, Line, Shard}
use Rattle.bench_line.specs.Change.{taken_back as line_taken_back}
use Rattle.bench_line.specs.declared.change.Change.TheVariants as changes
use Rattle.bench_queue.specs.Inbox.{without_in}
use Rattle.bench_queue.specs.Outbox.{undropped_one, unlifted_one, without_out}
use Rattle.bench_shard.specs.View.{with_inbox, with_outbox}
use Rattle.bench_shard.specs.Works.{taken_back as shard_taken_back}
use Rattle.bench_undo.specs.declared.undo.Arrival.{Arrival}
use Rattle.bench_undo.specs.declared.undo.Arrival.TheVariants as arrivals
use Rattle.bench_undo.specs.declared.undo.Undo.{Undo}
use Rattle.bench_undo.specs.declared.undo.Undo.TheVariants.{Dropped, Fired, Lifted, Lines, Opened, Told, Worked}
use Rattle.bench_views.specs.Behind.{at_outbox, at_shard, changed_at}
use Rattle.bench_views.specs.Pages.{taken_back_by}
use Rattle.bench_views.specs.Stored.{Stored}

-- the parts with one of the pages changed
abbrev pub at_book : ℕ → (Book → Book) → Stored → Stored
at_book place f s = record s { books = changed_at place f s.books }

-- a line, and of it how many items were dropped, never came to be
abbrev pub unopened : Stored → Stored
unopened s =
    record s { lines = line_taken_back changes.Opened s.lines; carried = take (length s.carried - 1) s.carried }

-- the item that a source lifted last waits again
abbrev pub unlifted : Source → Stored → Stored
unlifted (Line line) s = s
unlifted (Shard shard) s = at_shard shard (λ v. with_outbox v (unlifted_one v.outbox)) s
unlifted (Desk desk) s = at_outbox (suc desk) unlifted_one s
unlifted Clock s = at_outbox 0 unlifted_one s

-- the item that a source dropped last is in its hand again
abbrev pub undropped : Source → Stored → Stored
undropped (Line line) s = record s { carried = changed_at (line - 1) (λ n. n - 1) s.carried }
undropped (Shard shard) s = at_shard shard (λ v. with_outbox v (undropped_one v.outbox)) s
undropped (Desk desk) s = at_outbox (suc desk) undropped_one s
undropped Clock s = at_outbox 0 undropped_one s

-- it never came where it is for
abbrev pub unarrived : Arrival → Stored → Stored
unarrived (arrivals.Shard shard) s = at_shard shard (λ v. with_inbox v (without_in v.inbox 1)) s
unarrived (arrivals.Lines change) s = record s { lines = line_taken_back change s.lines }
unarrived arrivals.Opened s = unopened s
unarrived (arrivals.Timer machine old) s = record s { timers = with_timer s.timers machine old }

-- the parts before a step
abbrev pub undone : Undo → Stored → Stored
undone Opened s = unopened s
undone (Lines change) s = record s { lines = line_taken_back change s.lines }
undone (Told desk) s = at_outbox (suc desk) (λ v. without_out v 1) s
undone (Fired machine old posted) s =
    at_outbox 0 (λ v. without_out v posted) (record s { timers = with_timer s.timers machine old })
undone (Lifted source) s = unlifted source s
undone (Dropped source arrival) s = unarrived arrival (undropped source s)
undone (Worked shard change page booked) s =
    at_shard shard (shard_taken_back change) (at_book page (taken_back_by booked) s)

-- the record takes nothing off a page of the book
abbrev pub BooksNothing : Undo → Type 0
BooksNothing (Worked shard change page booked) = ⊥
BooksNothing undo = Unit {0}
