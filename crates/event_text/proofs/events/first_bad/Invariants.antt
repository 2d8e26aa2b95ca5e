use Rattle.std.proofs.Common.{◌≡◌, length}
use Rattle.text_parts.specs.Left.{lines_left}
use Rattle.event_text.specs.Events.{bad_line, bad_line_in}
use Rattle.event_text.proofs.events.first_bad.Given as goal

-- no line before was bad
abbrev pub invariant-loop-line : goal.invariant-loop-line
invariant-loop-line l = bad_line_in l.book (lines_left l.lines) ≡ bad_line l.book l.text

-- each turn takes a line
abbrev pub decreases-loop-line : goal.decreases-loop-line
decreases-loop-line l = length (lines_left l.lines)
