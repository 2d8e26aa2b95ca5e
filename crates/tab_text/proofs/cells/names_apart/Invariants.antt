use Rattle.std.proofs.Common.{◌≡◌, List, ◌++◌, length, map, option_map}
use Rattle.tab_text.specs.Cells.{names_apart}
use Rattle.text_parts.specs.Fronts.{IsFront}
use Rattle.tab_text.specs.Reading.{cell_words, octets_in}
use Rattle.tab_text.proofs.cells.names_apart.Given as goal

-- the names so far and those of the words that are left are the names
abbrev pub invariant-loop-name : goal.invariant-loop-name
invariant-loop-name l =
    (list : List _) × IsFront list l.names × (names_apart l.between (cell_words l.initial.words) ≡ option_map (λ more. map octets_in list ++ more) (names_apart l.between (cell_words l.words)))

abbrev pub decreases-loop-name : goal.decreases-loop-name
decreases-loop-name l = length (cell_words l.words)
