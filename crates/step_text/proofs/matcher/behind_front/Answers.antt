use Rattle.std.proofs.Common.{◌∙◌, arith}
use Rattle.step_text.proofs.MatchingLemmas.{behind_front-short}
use Rattle.step_text.proofs.matcher.behind_front.Goals as goal

-- the text ends before the front
pub returns-in_default : goal.returns-in_default
returns-in_default c = behind_front-short c.args.front.now c.loop-c.left.now c.loop-c.c-index (omega arith) (omega arith) ∙ c.loop-c.invariant
