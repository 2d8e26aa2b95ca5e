use Rattle.std.proofs.Common.{◌≡◌, ◌++◌, List, ℕ, length}
use Rattle.std.specs.List.{flat_map}
use Rattle.tab_text.specs.Cells.{parts}
use Rattle.text_parts.specs.Fronts.{IsFront}
use Rattle.tab_text.specs.Reading.{cell_octets}
use Rattle.text_parts.specs.Left.{lines_more}
use Rattle.tab_text.proofs.cells.RowCell.joined.Given as goal

-- what was read and what is left are the cell
abbrev pub invariant-loop-line : goal.invariant-loop-line
invariant-loop-line l =
    (front : List ℕ) × IsFront front l.name × (cell_octets l.initial.self ≡ front ++ flat_map (λ part. part) (parts l.self.span (lines_more l.self.behind)))

abbrev pub decreases-loop-line : goal.decreases-loop-line
decreases-loop-line l = length (lines_more l.self.behind)
