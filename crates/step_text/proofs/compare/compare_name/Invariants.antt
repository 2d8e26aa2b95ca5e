use Rattle.std.proofs.Common.{◌≡◌, drop}
use Rattle.step_text.specs.Matching.{left_of, without}
use Rattle.step_text.specs.Names.{shown}
use Rattle.step_text.proofs.compare.compare_name.Given as goal

-- the octets that are left are still to be compared
abbrev pub invariant-loop-c : goal.invariant-loop-c
invariant-loop-c l = without (shown (drop l.c-index l.name)) (left_of l.matcher) ≡ without (shown l.name) (left_of l.initial.matcher)
