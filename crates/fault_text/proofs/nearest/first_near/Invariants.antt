use Rattle.std.proofs.Common.{◌≡◌, drop}
use Rattle.fault_text.specs.Nearest.{first_near}
use Rattle.fault_text.proofs.nearest.first_near.Given as goal

-- the names so far are farther off
abbrev pub invariant-loop-entry : goal.invariant-loop-entry
invariant-loop-entry g l = first_near l.limit l.word (drop l.entry-index l.entries) ≡ first_near l.limit l.word l.entries
