use Rattle.std.proofs.Common.{◌≡◌, ◌++◌, drop}
use Rattle.log_text.specs.EntryLines.{deed_lines}
use Rattle.log_text.proofs.deeds.put_deed_lines.Given as goal

-- with the deeds and the outcomes that are left, the octets are the lines of all deeds
abbrev pub invariant-loop-deed : goal.invariant-loop-deed
invariant-loop-deed l = l.out.items ++ deed_lines (drop l.deed-index l.deeds) l.left ≡ l.initial.out.items ++ deed_lines l.deeds l.outcomes
