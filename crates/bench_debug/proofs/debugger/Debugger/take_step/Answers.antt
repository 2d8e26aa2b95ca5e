use Rattle.std.proofs.Common.{◌∙◌, sym}
use Rattle.bench_script.proofs.RanLemmas.{count-is, each-has}
use Rattle.bench_spec.specs.Taken.{Takes}
use Rattle.bench_debug.specs.Debug.{debugging}
use Rattle.bench_debug.proofs.BackLemmas.{moved_by, on_ok}
use Rattle.bench_debug.proofs.debugger.Debugger.take_step.Goals as goal

-- the registries are those of the bench
pub step-requires-clause-laws : goal.step-requires-clause-laws
step-requires-clause-laws g c = each-has _ _ _ _ c.requires.by.same

pub step-requires-clause-count : goal.step-requires-clause-count
step-requires-clause-count g c = count-is _ _ _ _ c.requires.by.same

-- the step was taken, and its place in the script kept
pub returns-clause-ok : goal.returns-clause-ok
returns-clause-ok g c = (
  on_ok c.step.result (Takes c.args.self.now.core c.step.new.self c.args.step) (sym c.is_err.ensures.value ∙ c.if-is_err.false) c.step.ensures.ok,
  moved_by c.step.new.self (debugging c.args.self.now.core c.args.self.now.progress) c.push.new.self.items c.in_ok-push.ensures.items,
)
