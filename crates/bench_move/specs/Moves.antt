-- One move of a machine, and what it leads to.
use Rattle.std.specs.Prelude.{◌≡◌, ℕ, List, flat_map, ◌-◌, take, length}
use Rattle.acct_book.specs.Book.{Book, Paged}
use Rattle.acct_totals.specs.declared.op.Op.{Op}
use Rattle.tab_law.specs.Books.{Laws}
use Rattle.tab_step.specs.declared.machine.MachineState.{MachineState}
use Rattle.tab_text.specs.Contents.{Contents}
use Rattle.bench_item.specs.declared.entry.Moved.{Moved}
use Rattle.bench_item.specs.declared.item.Item.{Item}
use Rattle.bench_item.specs.declared.item.MachineItem.{MachineItem}
use Rattle.bench_item.specs.Posts.{posts_of}
use Rattle.bench_item.specs.Keys.{Configured, node_of}
use Rattle.bench_spec.specs.Booked.{event_with_quote, ops_of, outcomes_for, want_of}
use Rattle.bench_spec.specs.Items.{doer_of}
use Rattle.bench_spec.specs.Legal.{IsMove}
use Rattle.bench_move.specs.Tables.{Tables, table_of}
use Rattle.bench_move.specs.declared.deciding.Decided.{Decided}

-- a move of the machine of that number, which stands there, at an item:
-- a step at the item's event with the book's quote, with the outcomes that the book allows
pub record IsMoveOf (laws : Laws) (table : Contents) (book : Book) (number : ℕ) (before : MachineState)
    (item : MachineItem) (moved : Moved) : Type 0 where
  pub machine : moved.machine ≡ number
  pub before_is : moved.before ≡ before
  pub event : moved.event ≡ event_with_quote book (want_of laws item before) item.event
  pub step : IsMove laws table moved
  pub outcomes : moved.outcomes ≡ outcomes_for book (want_of laws item before) moved.deeds

-- what the deeds of a move that an item led to post
abbrev pub posts_for : Laws → Configured → MachineItem → Moved → List Item
posts_for laws configured item moved = flat_map (posts_of (node_of laws configured) (doer_of item moved)) moved.deeds

-- the operations of the account book that they ask for
abbrev pub ops_for : Laws → MachineItem → Moved → List Op
ops_for laws item moved = ops_of (want_of laws item moved.before) moved.deeds

-- a move by the table of the item's role, with what its deeds post and book
pub record IsDecided (tables : Tables) (configured : Configured) (book : Book) (number : ℕ) (before : MachineState)
    (item : MachineItem) (decided : Decided) : Type 0 where
  pub move : IsMoveOf tables.laws (table_of tables item.key.role) book number before item decided.moved
  pub posts : decided.posts.items ≡ posts_for tables.laws configured item decided.moved
  pub ops : decided.ops ≡ ops_for tables.laws item decided.moved

-- the book without its last operations, so many
abbrev pub without_last : Book → ℕ → Book
without_last book count = record { accounts = book.accounts; journal = take (length book.journal - count) book.journal }

-- a page with another book
abbrev pub Holds : Paged → Paged → Book → Type 0
Holds old new book = (new.number ≡ old.number) × (new.pages ≡ old.pages) × (new.book ≡ book)
