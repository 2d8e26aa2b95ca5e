use Rattle.std.proofs.Common.{◌≡◌, length}
use Rattle.hex.specs.Hex.{encode_lower}
use Rattle.step_text.specs.Matching.{left_of, without}
use Rattle.step_text.specs.Shown.{octets_in}
use Rattle.step_text.proofs.compare.compare_octets.Given as goal

-- the pairs that are left are still to be compared
abbrev pub invariant-pairs : goal.invariant-pairs
invariant-pairs l = without (encode_lower (octets_in l.left)) (left_of l.matcher) ≡ without (encode_lower (octets_in l.digits)) (left_of l.initial.matcher)

abbrev pub decreases-pairs : goal.decreases-pairs
decreases-pairs l = length l.left
