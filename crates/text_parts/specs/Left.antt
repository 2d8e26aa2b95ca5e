-- What is left of a text as its lines are taken off.
use Rattle.std.specs.Prelude.{◌+◌, List}
use Rattle.text_parts.specs.Lines.{Line, numbered_from, kept, more_lines}
use Rattle.text_parts.specs.Pieces.{pieces_left}
use Rattle.text_parts.specs.declared.lines.Lines.{Lines}
use Rattle.text_parts.specs.declared.lines.TextLine.{TextLine}

-- a line as it was taken off
abbrev pub line_of : TextLine → Line
line_of taken = record { number = taken.number; octets = taken.octets.now }

-- the lines that are left
abbrev pub lines_left : Lines → List Line
lines_left l = numbered_from (l.number + 1) (pieces_left l.pieces)

-- the lines in front that continue a row
abbrev pub lines_more : Lines → List Line
lines_more l = more_lines (kept (lines_left l))
