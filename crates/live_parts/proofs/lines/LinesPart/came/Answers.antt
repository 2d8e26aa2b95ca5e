use Rattle.live_parts.proofs.LineLemmas.{came-put, put-log}
use Rattle.live_parts.proofs.lines.LinesPart.came.Goals as goal

pub invariant_of-self-2 : goal.invariant_of-self-2
invariant_of-self-2 c =
    came-put _ _ _ _ _ _ c.args.line c.args.piece.now c.in_ok-_came.ensures.rules
    (put-log c.self.inside.log c.reserve.new.self c.put.new.self c.args.stamp _ _ c.in_ok-reserve.ensures.entries c.put.ensures c.in_ok-entry.ensures) c.self.invariant c.in_ok-_came.ensures.stands c.in_ok-_came.ensures.lifted
