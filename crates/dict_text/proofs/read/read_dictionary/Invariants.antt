use Rattle.std.proofs.Common.{◌≡◌, length}
use Rattle.text_parts.specs.Left.{lines_left}
use Rattle.dict_text.specs.Read.{glossary_of, lines_added}
use Rattle.dict_text.proofs.read.read_dictionary.Given as goal

-- the lines that are left make of the glossary so far that of the whole text
abbrev pub invariant-loop-line : goal.invariant-loop-line
invariant-loop-line l = glossary_of l.text ≡ lines_added l.glossary (lines_left l.lines)

-- each turn takes a line
abbrev pub decreases-loop-line : goal.decreases-loop-line
decreases-loop-line l = length (lines_left l.lines)
