use Rattle.std.proofs.Common.{◌≡◌, ◌≤◌, ◌++◌, ◌+◌, ℕ, List, length}
use Rattle.msg_input.specs.ByLineSoFar.{LinesSoFar}
use Rattle.msg_input.specs.ByLine.{says_by}
use Rattle.msg_input.proofs.by_line.ByLine.take_text.Given as goal

-- what is used of the text was taken
abbrev pub invariant-lines : goal.invariant-lines
invariant-lines g l =
    (used : List ℕ) × (l.text ≡ used ++ l.rest)
    × (l.self.reading.characters + length l.rest ≤ l.initial.self.reading.characters + length l.text)
    × ((before written : List ℕ) → LinesSoFar (says_by (g.M.Printer.Says l.glossary)) g.M.Printer.line_text l.initial.self before written
    → LinesSoFar (says_by (g.M.Printer.Says l.glossary)) g.M.Printer.line_text l.self (before ++ used) written)

-- each turn uses a newline
abbrev pub decreases-lines : goal.decreases-lines
decreases-lines g l = length l.rest
