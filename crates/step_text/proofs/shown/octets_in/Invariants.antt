use Rattle.std.proofs.Common.{◌≡◌, ◌++◌, length}
use Rattle.step_text.specs.Shown.{octets_in}
use Rattle.step_text.proofs.shown.octets_in.Given as goal

-- the pairs that are left are the octets that are still to come
abbrev pub invariant-pairs : goal.invariant-pairs
invariant-pairs l = l.octets.items ++ octets_in l.left ≡ octets_in l.digits

abbrev pub decreases-pairs : goal.decreases-pairs
decreases-pairs l = length l.left
