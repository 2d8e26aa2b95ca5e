use Rattle.std.proofs.Common.{◌≡◌, length}
use Rattle.text_parts.specs.Left.{lines_left}
use Rattle.event_text.specs.Left.{events_left}
use Rattle.event_text.proofs.events.Events.next.Given as goal

-- the lines before are no events
abbrev pub invariant-loop-line : goal.invariant-loop-line
invariant-loop-line l = events_left l.book l.self ≡ events_left l.book l.initial.self

-- each turn takes a line
abbrev pub decreases-loop-line : goal.decreases-loop-line
decreases-loop-line l = length (lines_left l.self.lines)
