-- What an entry of work makes of the parts of a bench.
use Rattle.std.specs.Prelude.{ℕ, List, fold, slice_set}
use Rattle.acct_book.specs.Book.{Book, after}
use Rattle.bench_item.specs.declared.entry.Handled.{Handled}
use Rattle.bench_item.specs.declared.entry.Handled.TheVariants.{Move}
use Rattle.bench_item.specs.declared.item.Item.{Item}
use Rattle.bench_item.specs.declared.item.MachineItem.{MachineItem}
use Rattle.bench_shard.specs.View.{ShardView}
use Rattle.bench_shard.specs.Works.{after_work, ops_in}
use Rattle.bench_spec.specs.Booked.{want_of}
use Rattle.bench_spec.specs.Settings.{Settings}
use Rattle.bench_views.specs.Pages.{IsAsked}
use Rattle.bench_views.specs.Stored.{Stored}

-- the page has the account that a handled item asks for; any page where it moved nothing or asks for none
abbrev pub IsAskedBy : Settings → ℕ → MachineItem → Handled → Type 0
IsAskedBy settings page item (Move moved) = IsAsked settings.pages page (want_of settings.node.laws item moved.before)
IsAskedBy settings page item handled = Unit {0}

-- a book once it did what a handled item asked it to do
abbrev pub booked_on : Settings → MachineItem → Handled → Book → Book
booked_on settings item handled book = fold after book (ops_in settings.node.laws item handled)

-- the parts once that shard handled its oldest item, and put these items out, with that page
abbrev pub worked_by : Settings → ℕ → ShardView → ℕ → Book → MachineItem → Handled → List Item → Stored → Stored
worked_by settings shard v page book item handled posts s = record s {
  shards = slice_set s.shards shard (after_work v item handled posts);
  books = slice_set s.books page (booked_on settings item handled book);
}
