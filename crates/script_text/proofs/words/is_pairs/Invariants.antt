use Rattle.std.proofs.Common.{◌≡◌, length}
use Rattle.script_text.specs.Scripts.{is_pairs}
use Rattle.script_text.proofs.words.is_pairs.Given as goal

-- the digits so far were pairs
abbrev pub invariant-pairs : goal.invariant-pairs
invariant-pairs l = is_pairs l.word ≡ is_pairs l.left

-- each turn takes a pair
abbrev pub decreases-pairs : goal.decreases-pairs
decreases-pairs l = length l.left
