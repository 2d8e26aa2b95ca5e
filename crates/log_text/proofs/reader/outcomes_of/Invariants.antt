use Rattle.std.proofs.Common.{◌≡◌, ◌++◌, drop}
use Rattle.log_text.specs.Following.{outcomes_of}
use Rattle.log_text.proofs.reader.outcomes_of.Given as goal

-- with those of the lines that are left, the outcomes are all
abbrev pub invariant-loop-line : goal.invariant-loop-line
invariant-loop-line l = l.outcomes.items ++ outcomes_of (drop l.line-index l.lines) ≡ outcomes_of l.lines
