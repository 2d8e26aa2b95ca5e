use Rattle.std.proofs.Common.{◌≡◌, length}
use Rattle.text_parts.specs.Left.{lines_left, lines_more}
use Rattle.text_parts.proofs.lines.Lines.next_more.Given as goal

abbrev pub invariant-loop-line : goal.invariant-loop-line
invariant-loop-line l = lines_more l.self ≡ lines_more l.initial.self

abbrev pub decreases-loop-line : goal.decreases-loop-line
decreases-loop-line l = length (lines_left l.self)
