use Rattle.live_parts.proofs.LineLemmas.{joined-put, put-log}
use Rattle.live_parts.proofs.lines.LinesPart.joined.Goals as goal

pub invariant_of-self-2 : goal.invariant_of-self-2
invariant_of-self-2 c =
    joined-put _ _ _ _ _ _ c.in_ok-line.ensures.rules
    (put-log c.self.inside.log c.reserve.new.self c.put.new.self c.args.stamp _ _ c.in_ok-reserve.ensures.entries c.put.ensures c.in_ok-entry.ensures) c.self.invariant c.in_ok-line.ensures.stands c.in_ok-line.ensures.lifted
