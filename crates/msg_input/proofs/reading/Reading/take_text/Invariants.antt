use Rattle.std.proofs.Common.{◌≡◌, ◌++◌, ◌+◌, ℕ, List, None, length}
use Rattle.msg_input.specs.Readings.{SoFar}
use Rattle.msg_input.proofs.reading.Reading.take_text.Given as goal

-- what is used of the text was taken
abbrev pub invariant-pieces : goal.invariant-pieces
invariant-pieces g l =
    (used : List ℕ) × (l.text ≡ used ++ l.rest)
    × (l.self.characters + length l.rest ≡ l.initial.self.characters + length l.text)
    × ((first : ℕ) (before written : List ℕ) → SoFar (g.M.Printer.Says l.glossary l.line) first l.initial.self before written None → SoFar (g.M.Printer.Says l.glossary l.line) first l.self (before ++ used) written None)

-- each turn uses a character or more
abbrev pub decreases-pieces : goal.decreases-pieces
decreases-pieces g l = length l.rest
