use Rattle.std.proofs.Common.{◌≡◌, ◌++◌, drop, map}
use Rattle.log_text.proofs.reader.deeds_of.Given as goal

-- with those of the lines that are left, the deeds are all
abbrev pub invariant-loop-line : goal.invariant-loop-line
invariant-loop-line l = l.deeds.items ++ map (λ line. line.deed) (drop l.line-index l.lines) ≡ map (λ line. line.deed) l.lines
