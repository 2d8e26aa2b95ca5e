use Rattle.std.proofs.Common.{◌≡◌, length}
use Rattle.text_parts.specs.Left.{lines_more}
use Rattle.fault_text.specs.Spots.{odd_behind}
use Rattle.fault_text.proofs.spots.odd_behind.Given as goal

-- each word of the lines before is a name
abbrev pub invariant-loop-line : goal.invariant-loop-line
invariant-loop-line l = odd_behind (lines_more l.behind) ≡ odd_behind (lines_more l.initial.behind)

-- each turn takes a line
abbrev pub decreases-loop-line : goal.decreases-loop-line
decreases-loop-line l = length (lines_more l.behind)
