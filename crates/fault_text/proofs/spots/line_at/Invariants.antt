use Rattle.std.proofs.Common.{◌≡◌, length}
use Rattle.text_parts.specs.Left.{lines_left}
use Rattle.text_parts.specs.Lines.{lines}
use Rattle.fault_text.specs.Spots.{from_line}
use Rattle.fault_text.proofs.spots.line_at.Given as goal

-- no line before has the number
abbrev pub invariant-loop-line : goal.invariant-loop-line
invariant-loop-line l = from_line l.number (lines_left l.left) ≡ from_line l.number (lines l.text)

-- each turn takes a line
abbrev pub decreases-loop-line : goal.decreases-loop-line
decreases-loop-line l = length (lines_left l.left)
