use Rattle.std.proofs.Common.{◌≡◌, not, ◌==◌, length}
use Rattle.tab_text.specs.Reading.{first_row}
use Rattle.text_parts.specs.Left.{lines_left}
use Rattle.tab_text.proofs.reader.Reader.next_line.Given as goal

-- no row began yet, and nothing but the lines left has changed
abbrev pub invariant-loop-line : goal.invariant-loop-line
invariant-loop-line l = record {
  found : first_row (not (l.initial.self.count == 0)) (lines_left l.self.lines) ≡ first_row (not (l.initial.self.count == 0)) (lines_left l.initial.self.lines);
  header : l.self.header ≡ l.initial.self.header;
  columns : l.self.columns ≡ l.initial.self.columns;
  count : l.self.count ≡ l.initial.self.count;
  state : l.self.state ≡ l.initial.self.state;
}

abbrev pub decreases-loop-line : goal.decreases-loop-line
decreases-loop-line l = length (lines_left l.self.lines)
