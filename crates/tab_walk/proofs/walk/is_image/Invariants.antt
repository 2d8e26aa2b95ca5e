use Rattle.std.proofs.Common.{◌≡◌, drop}
use Rattle.tab_walk.specs.Walks.{is_image}
use Rattle.tab_walk.proofs.walk.is_image.Given as goal

-- blanks alone came so far
abbrev pub invariant-loop-c : goal.invariant-loop-c
invariant-loop-c l = is_image l.text ≡ is_image (drop l.c-index l.text)
