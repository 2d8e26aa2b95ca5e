-- All parts of a bench as they are kept.
use Rattle.std.specs.Prelude.{◌≡◌, ◌≤◌, ℕ, IsTrue, List, Some, length, map, slice_get}
use Rattle.std.specs.FinSet as set
use Rattle.acct_book.specs.Book.{Book, Paged}
use Rattle.bench_line.specs.Line.{LineView}
use Rattle.bench_queue.specs.Outbox.{OutboxState}
use Rattle.bench_shard.specs.View.{ShardView}
use Rattle.bench_undo.specs.declared.undo.Arrival.{Arrival}
use Rattle.bench_undo.specs.declared.undo.Arrival.TheVariants.{Timer}
use Rattle.bench_undo.specs.declared.undo.Undo.{Undo}
use Rattle.bench_undo.specs.declared.undo.Undo.TheVariants.{Worked}
use Rattle.bench_views.specs.Stored.{Stored}
use Rattle.tick_wheel.specs.Timers.{Timers}
use Rattle.bench_carry.specs.Seen.{views_of}

-- the books of pages, without their numbers and their room
abbrev pub books_of : List Paged → List Book
books_of pages = map (λ p. p.book) pages

-- the numbers of pages, each with how many there are
abbrev pub numbers_of : List Paged → List (ℕ × ℕ)
numbers_of pages = map (λ p. (p.number, p.pages)) pages

-- the parts of a bench whose shards, outboxes, lines, counts of what was dropped of each line,
-- pages and wheel are these
abbrev pub parts_of : List ShardView → List OutboxState → List LineView → List ℕ → List Paged → Timers → Stored
parts_of shards outboxes lines carried pages wheel = record {
  shards = shards;
  outboxes = views_of outboxes;
  lines = lines;
  carried = carried;
  books = books_of pages;
  timers = wheel.armed;
}

-- a record may be applied: as much is on its page of the book as it takes back
abbrev pub MayUndo : Undo → Stored → Type 0
MayUndo (Worked shard change page booked) s =
    (book : Book) → slice_get s.books page ≡ Some book → booked ≤ length book.journal
MayUndo undo s = Unit {0}

-- the wheel has a place for the timer that is set again where an arrival is taken back
abbrev pub IsTimerPlaced : Timers → Arrival → Type 0
IsTimerPlaced wheel (Timer machine old) = IsTrue (set.contains wheel.places machine)
IsTimerPlaced wheel arrival = Unit {0}
