use Rattle.std.proofs.Common.{◌≡◌, ◌≤◌, ◌+◌, ◌-◌, ◌++◌, fold, length, take}
use Rattle.std.specs.Prelude.{vec_len, vec_capacity}
use Rattle.acct_book.specs.Book.{after, with_book}
use Rattle.bench_spec.specs.Booked.{outcomes_of}
use Rattle.bench_move.proofs.booking.apply_all.Given as goal

abbrev pub invariant-loop-op : goal.invariant-loop-op
invariant-loop-op l = record {
  page : l.page ≡ with_book l.initial.page (fold after l.initial.page.book (take l.op-index l.ops)) (l.initial.page.room - l.op-index);
  outcomes : l.outcomes.items ≡ l.initial.outcomes.items ++ outcomes_of l.initial.page.book (take l.op-index l.ops);
  memory : vec_len l.outcomes + (length l.ops - l.op-index) ≤ vec_capacity l.outcomes;
}
