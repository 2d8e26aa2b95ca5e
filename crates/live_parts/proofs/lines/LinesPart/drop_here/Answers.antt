use Rattle.live_parts.proofs.LineLemmas.{come-put, put-log}
use Rattle.live_parts.proofs.lines.LinesPart.drop_here.Goals as goal

pub invariant_of-self-2 : goal.invariant_of-self-2
invariant_of-self-2 c =
    come-put _ _ _ _ _ _ c.args.source c.args.item.now c.come.ensures.rules
    (put-log c.self.inside.log c.reserve.new.self c.put.new.self c.args.stamp _ _ c.in_ok-reserve.ensures.entries c.put.ensures c.in_ok-entry.ensures) c.requires c.self.invariant c.in_ok-come.ensures.ok
