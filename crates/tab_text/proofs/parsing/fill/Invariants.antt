use Rattle.std.proofs.Common.{List, length}
use Rattle.text_parts.specs.Lines.{Line}
use Rattle.tab_text.specs.Cells.{Cells}
use Rattle.text_parts.specs.Left.{lines_left}
use Rattle.tab_text.specs.Rooms.{rooms_names}
use Rattle.tab_text.proofs.ParseLemmas.{IsFilled}
use Rattle.tab_text.proofs.parsing.fill.Given as goal

abbrev pub invariant-loop-lines : goal.invariant-loop-lines
invariant-loop-lines l =
    (header : Line) × (rows : List Cells) × IsFilled l.text l.reader (rooms_names l.names) l.rows.items l.lines.items header rows

abbrev pub decreases-loop-lines : goal.decreases-loop-lines
decreases-loop-lines l = length (lines_left l.reader.lines)
