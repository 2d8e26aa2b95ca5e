use Rattle.std.proofs.Common.{◌≡◌, ◌++◌, length}
use Rattle.text_parts.specs.Pieces.{pieces_left}
use Rattle.bench_nodes.specs.Marked.{marked, marked_lines}
use Rattle.bench_nodes.proofs.marked.put_marked.Given as goal

-- what was put, and the lines that are left, make the whole
abbrev pub invariant-lines : goal.invariant-lines
invariant-lines l = l.out.items ++ marked_lines l.word (pieces_left l.lines) ≡ l.initial.out.items ++ marked l.word l.text

-- each turn takes a line
abbrev pub decreases-lines : goal.decreases-lines
decreases-lines l = length (pieces_left l.lines)
