use Rattle.std.proofs.Common.{rules, ◌∙◌, ap, sym, is_some, true≢false}
use Rattle.std.specs.Ordering.{nat_cmp}
use Rattle.std.specs.FinMap as fin
use Rattle.tick_wheel.specs.Places.{armed_of}
use Rattle.tick_wheel.proofs.wheel.Wheel.new.Goals as goal

-- there is no timer that could be due
pub invariant_of-result : goal.invariant_of-result
invariant_of-result c owner timer is =
    absurd (true≢false (sym (ap is_some (sym (ap (λ places. fin.get (armed_of places) owner) c.new.ensures.empty ∙ fin.get-empty nat_cmp owner) ∙ is))))

pub returns : goal.returns
returns c = search rules
