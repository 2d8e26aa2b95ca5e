use Rattle.std.proofs.Common.{◌≡◌, length}
use Rattle.tab_text.specs.Reading.{first_kept}
use Rattle.text_parts.specs.Left.{lines_left}
use Rattle.tab_text.proofs.reader.next_kept.Given as goal

abbrev pub invariant-loop-line : goal.invariant-loop-line
invariant-loop-line l = first_kept (lines_left l.lines) ≡ first_kept (lines_left l.initial.lines)

abbrev pub decreases-loop-line : goal.decreases-loop-line
decreases-loop-line l = length (lines_left l.lines)
