use Rattle.std.proofs.Common.{List, length}
use Rattle.text_parts.specs.Lines.{Line}
use Rattle.tab_text.specs.Cells.{Cells}
use Rattle.text_parts.specs.Left.{lines_left}
use Rattle.tab_text.specs.Rooms.{rooms_names}
use Rattle.tab_text.proofs.ParseLemmas.{IsChecked}
use Rattle.tab_text.proofs.parsing.check.Given as goal

abbrev pub invariant-loop-names : goal.invariant-loop-names
invariant-loop-names l =
    (header : Line) × (rows : List Cells) × IsChecked l.text l.reader (rooms_names l.names) header rows

abbrev pub decreases-loop-names : goal.decreases-loop-names
decreases-loop-names l = length (lines_left l.reader.lines)
