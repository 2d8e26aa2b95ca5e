-- A move by a book is the next of a log, where that book says of what is asked what the log's book says.
use Rattle.std.proofs.Common.{◌≡◌, List, sym, ◌∙◌}
use Rattle.std.specs.Prelude.{Option}
use Rattle.acct_book.specs.Book.{Book}
use Rattle.charge_session.specs.declared.want.Want.{Want}
use Rattle.tab_law.specs.declared.scene.Deed.{Deed}
use Rattle.tab_step.specs.declared.machine.Event.{Event}
use Rattle.bench_item.specs.declared.entry.Entry.{Entry}
use Rattle.bench_item.specs.declared.entry.Moved.{Moved}
use Rattle.bench_item.specs.declared.item.MachineItem.{MachineItem}
use Rattle.bench_spec.specs.Booked.{book_at, event_with_quote, outcomes_for, want_of}
use Rattle.bench_spec.specs.Legal.{MovesNext}
use Rattle.bench_spec.specs.Machines.{number_for, state_at}
use Rattle.bench_spec.specs.Settings.{Settings, table_of}
use Rattle.bench_move.specs.Moves.{IsMoveOf}

-- two books say the same to what is asked
pub record SaysTheSame (want : Option Want) (b c : Book) : Type 0 where
  pub event : (event : Event) → event_with_quote b want event ≡ event_with_quote c want event
  pub outcomes : (deeds : List Deed) → outcomes_for b want deeds ≡ outcomes_for c want deeds

-- such a move is the next of the log,
pub MovesNext-from_move : (settings : Settings) (past : List Entry) (item : MachineItem) (book : Book) (moved : Moved) → SaysTheSame (want_of settings.node.laws item (state_at settings.node past item.key)) book (book_at settings past) → IsMoveOf settings.node.laws (table_of settings item.key.role) book (number_for settings.node past item.key) (state_at settings.node past item.key) item moved → MovesNext settings past item moved
MovesNext-from_move settings past item book moved same move = record {
  machine = move.machine;
  before = move.before_is;
  event = rw move.before_is (move.event ∙ same.event item.event);
  move = move.step;
  outcomes = rw move.before_is (move.outcomes ∙ same.outcomes moved.deeds);
}

-- and the next of the log is such a move
pub move-from_MovesNext : (settings : Settings) (past : List Entry) (item : MachineItem) (book : Book) (moved : Moved) → SaysTheSame (want_of settings.node.laws item (state_at settings.node past item.key)) book (book_at settings past) → MovesNext settings past item moved → IsMoveOf settings.node.laws (table_of settings item.key.role) book (number_for settings.node past item.key) (state_at settings.node past item.key) item moved
move-from_MovesNext settings past item book moved same next = record {
  machine = next.machine;
  before_is = next.before;
  event = rw next.before at next.event ∙ sym (same.event item.event);
  step = next.move;
  outcomes = rw next.before at next.outcomes ∙ sym (same.outcomes moved.deeds);
}
