use Rattle.std.proofs.Common.{◌<◌, arith, length}
use Rattle.bench_debug.specs.Debug.{debugging}
use Rattle.bench_debug.proofs.RewindLemmas.{back_here, turn_back}
use Rattle.bench_debug.proofs.debugger.Debugger.rewind.Goals as goal

pub steps-init : goal.steps-init
steps-init c = (omega arith, c.requires, back_here (debugging c.args.self.now.core c.args.self.now.progress))

-- one step more was taken back
pub steps-preserved : goal.steps-preserved
steps-preserved c =
    let some : 0 < length c.steps.self.core.log = omega (arith, c.place.ensures, c.steps-test.true) in
    let turn =
    turn_back (debugging c.args.self.now.core c.args.self.now.progress) (debugging c.steps.self.core c.steps.self.progress)
    (debugging c.undo.new.self.core c.undo.new.self.progress) c.undo.result c.steps.invariant.0 c.steps.invariant.2 some c.undo.ensures.ok c.undo.ensures.none in (
      omega (arith, turn.0, c.steps.invariant.0),
      omega (arith, turn.0, c.place.ensures, c.steps-test.true),
      turn.1,
    )
