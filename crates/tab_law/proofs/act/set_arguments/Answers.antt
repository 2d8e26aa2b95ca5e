use Rattle.std.proofs.Common.{◌≤◌, length}
use Rattle.tab_law.specs.Values.{term_value}
use Rattle.tab_law.specs.declared.limits.TheConstants.{PLACES}
use Rattle.tab_law.proofs.Emits.{padded-more}
use Rattle.tab_law.proofs.act.set_arguments.Goals as goal

pub loop-i-preserved : goal.loop-i-preserved
loop-i-preserved c =
    let few : length c.as_slice-terms.result.now ≤ PLACES = rw c.as_slice-terms.ensures.value c.as_slice-terms.ensures.few in
    rw (c.loop-i.invariant, c.term.ensures) (padded-more (term_value c.args.scene.now c.args.new.now) c.as_slice-terms.result.now c.loop-i.i PLACES _ c.loop-i-test.true few)
