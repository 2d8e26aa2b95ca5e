use Rattle.std.proofs.Common.{◌≡◌, ◌≤◌, ◌+◌, ◌++◌, false, length}
use Rattle.text_parts.specs.Lines.{numbered_from}
use Rattle.text_parts.specs.Pieces.{pieces_left}
use Rattle.script_text.specs.RunLines.{bad_run_in, first_bad_run, run_lines_in, run_script_of}
use Rattle.script_text.proofs.run_script.read_run_script.Given as goal

-- unless memory ran out, what was asked so far and what the lines that are left ask make the whole; and no line before was bad
abbrev pub invariant-loop-line : goal.invariant-loop-line
invariant-loop-line l =
    (l.short ≡ false → l.asked.items ++ run_lines_in l.book (numbered_from (l.place + 1) (pieces_left l.lines)) ≡ run_script_of l.book l.text)
    × (bad_run_in l.book (numbered_from (l.place + 1) (pieces_left l.lines)) ≡ first_bad_run l.book l.text)
    × (l.place ≤ l.lines.from)

-- each turn takes a line
abbrev pub decreases-loop-line : goal.decreases-loop-line
decreases-loop-line l = length (pieces_left l.lines)
