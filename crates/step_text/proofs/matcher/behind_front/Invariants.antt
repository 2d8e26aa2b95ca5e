use Rattle.std.proofs.Common.{◌≡◌, drop}
use Rattle.step_text.specs.Matching.{behind_front}
use Rattle.step_text.proofs.matcher.behind_front.Given as goal

-- what is left of the front is to stand before what is left of the text
abbrev pub invariant-loop-c : goal.invariant-loop-c
invariant-loop-c l = behind_front (drop l.c-index l.front) l.left ≡ behind_front l.front l.text
