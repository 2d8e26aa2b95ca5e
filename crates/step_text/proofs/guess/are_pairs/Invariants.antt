use Rattle.std.proofs.Common.{◌≡◌, length}
use Rattle.step_text.specs.Shown.{are_pairs}
use Rattle.step_text.proofs.guess.are_pairs.Given as goal

-- the digits so far were pairs
abbrev pub invariant-pairs : goal.invariant-pairs
invariant-pairs l = are_pairs l.word ≡ are_pairs l.left

abbrev pub decreases-pairs : goal.decreases-pairs
decreases-pairs l = length l.left
