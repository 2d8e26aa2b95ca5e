use Rattle.std.proofs.Common.{◌≡◌, ℕ, ◌<◌, false, slice_index_or}
use Rattle.tab_law.specs.Books.{named_answer}
use Rattle.tab_text.specs.declared.row.Row.{Row}
use Rattle.tab_step.specs.Moves.{matches, is_kind_of}
use Rattle.tab_step.proofs.taking.first_row.Given as goal

abbrev pub invariant-loop-number : goal.invariant-loop-number
invariant-loop-number g l = (k : ℕ) (d : Row) → k < l.number → matches l.bound.table l.state (is_kind_of l.book l.kind) (named_answer l.book l.scene) (slice_index_or l.bound.table.rows k d) ≡ false
