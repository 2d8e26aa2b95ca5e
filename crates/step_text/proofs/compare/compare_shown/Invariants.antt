use Rattle.std.proofs.Common.{◌≡◌, length}
use Rattle.step_text.specs.Guess.{unshown}
use Rattle.step_text.specs.Matching.{left_of, without}
use Rattle.step_text.specs.Names.{shown}
use Rattle.step_text.proofs.compare.compare_shown.Given as goal

-- the octets that are left are still to be compared
abbrev pub invariant-loop-taken : goal.invariant-loop-taken
invariant-loop-taken l = without (shown (unshown l.left)) (left_of l.matcher) ≡ without (shown (unshown l.word)) (left_of l.initial.matcher)

abbrev pub decreases-loop-taken : goal.decreases-loop-taken
decreases-loop-taken l = length l.left
