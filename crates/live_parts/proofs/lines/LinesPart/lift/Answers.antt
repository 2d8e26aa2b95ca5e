use Rattle.std.proofs.Common.{◌≡◌, Some, subst, sym}
use Rattle.bench_line.specs.Lines.{next_on}
use Rattle.live_parts.specs.LineParts.{LinesPartView}
use Rattle.live_parts.proofs.LineLemmas.{lifted-put, put-log}
use Rattle.live_parts.proofs.lines.LinesPart.lift.Goals as goal

pub invariant_of-self-2 : goal.invariant_of-self-2
invariant_of-self-2 c =
    lifted-put _ _ _ _ _ _ c.args.line c.in_ok-item.item c.lift-change.ensures.rules
    (put-log c.self.inside.log c.reserve.new.self c.put.new.self c.args.stamp _ _ c.in_ok-reserve.ensures.entries c.put.ensures c.in_ok-entry.ensures) c.lift-change.ensures.lifted c.self.invariant
    (subst (λ (v : LinesPartView). next_on v.lines c.args.line ≡ Some c.in_ok-item.item) (sym c.self.view_is) c.in_ok-item.ensures) c.lift-change.ensures.stands
