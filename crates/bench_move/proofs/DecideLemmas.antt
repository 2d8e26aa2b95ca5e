-- A move that was decided with what its item asks.
use Rattle.std.proofs.Common.{◌≡◌, ◌∙◌, ap, sym, ℕ, Option}
use Rattle.acct_book.specs.Book.{Book}
use Rattle.charge_session.specs.declared.want.Want.{Want}
use Rattle.tab_step.specs.declared.machine.MachineState.{MachineState}
use Rattle.bench_item.specs.declared.item.MachineItem.{MachineItem}
use Rattle.bench_item.specs.Keys.{Configured}
use Rattle.bench_spec.specs.Booked.{event_with_quote, ops_of, outcomes_for, want_of}
use Rattle.bench_spec.specs.Legal.{IsMove}
use Rattle.bench_move.specs.Moves.{IsDecided, posts_for}
use Rattle.bench_move.specs.Tables.{Tables, table_of}
use Rattle.bench_move.specs.declared.deciding.Decided.{Decided}

-- what was asked stands for what the item asks
pub decided-with : (tables : Tables) (configured : Configured) (book : Book) (number : ℕ) (before : MachineState) (item : MachineItem) (want : Option Want) (decided : Decided)
    → want ≡ want_of tables.laws item before
    → decided.moved.machine ≡ number → decided.moved.before ≡ before → decided.moved.event ≡ event_with_quote book want item.event
    → IsMove tables.laws (table_of tables item.key.role) decided.moved → decided.moved.outcomes ≡ outcomes_for book want decided.moved.deeds
    → decided.posts.items ≡ posts_for tables.laws configured item decided.moved → decided.ops ≡ ops_of want decided.moved.deeds
    → IsDecided tables configured book number before item decided
decided-with tables configured book number before item want decided asked machine stood event step outcomes posts ops = record {
  move = record {
    machine = machine;
    before_is = stood;
    event = event ∙ ap (λ (w : Option Want). event_with_quote book w item.event) asked;
    step = step;
    outcomes = outcomes ∙ ap (λ (w : Option Want). outcomes_for book w decided.moved.deeds) asked;
  };
  posts = posts;
  ops = ops ∙ ap (λ (w : Option Want). ops_of w decided.moved.deeds) asked
      ∙ ap (λ (b : MachineState). ops_of (want_of tables.laws item b) decided.moved.deeds) (sym stood);
}
