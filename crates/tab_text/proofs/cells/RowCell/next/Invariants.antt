use Rattle.std.proofs.Common.{◌≡◌, length}
use Rattle.tab_text.specs.Reading.{cell_words}
use Rattle.text_parts.specs.Left.{lines_more}
use Rattle.tab_text.proofs.cells.RowCell.next.Given as goal

abbrev pub invariant-loop-word : goal.invariant-loop-word
invariant-loop-word l = cell_words l.self ≡ cell_words l.initial.self

abbrev pub decreases-loop-word : goal.decreases-loop-word
decreases-loop-word l = length (lines_more l.self.behind)
