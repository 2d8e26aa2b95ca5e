use Rattle.std.proofs.Common.{◌≡◌, ◌++◌, length}
use Rattle.step_text.specs.Guess.{unshown}
use Rattle.step_text.proofs.words.unshown.Given as goal

-- what is left shows the rest of the name
abbrev pub invariant-loop-taken : goal.invariant-loop-taken
invariant-loop-taken l = l.name.items ++ unshown l.left ≡ unshown l.word

abbrev pub decreases-loop-taken : goal.decreases-loop-taken
decreases-loop-taken l = length l.left
