use Rattle.std.proofs.Common.{◌≤◌, length}
use Rattle.text_parts.specs.Pieces.{pieces_left}
use Rattle.log_text.specs.Books.{named}
use Rattle.log_text.proofs.ReadLemmas.{Read}
use Rattle.log_text.proofs.read.read_log.Given as goal

-- what the lines before this place tell is known, and the reader has it where memory did not run out
abbrev pub invariant-loop-line : goal.invariant-loop-line
invariant-loop-line l = Read (named l.names) l.reader l.end l.short l.text (pieces_left l.lines) l.place × (l.place ≤ l.lines.from)

abbrev pub decreases-loop-line : goal.decreases-loop-line
decreases-loop-line l = length (pieces_left l.lines)
