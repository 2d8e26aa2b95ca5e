use Rattle.std.proofs.Common.{ap, sym}
use Rattle.bench_script.proofs.RanLemmas.{count-is, each-has, run_by_same}
use Rattle.bench_spec.specs.Taken.{Run}
use Rattle.test_debug.proofs.sessions.join.Goals as goal

pub step-requires-clause-laws : goal.step-requires-clause-laws
step-requires-clause-laws g c = each-has _ _ _ _ c.requires.same

pub step-requires-clause-count : goal.step-requires-clause-count
step-requires-clause-count g c = count-is _ _ _ _ c.requires.same

pub returns-in-Ok : goal.returns-in-Ok
returns-in-Ok g c =
    run_by_same c.args.core.now c.step.new.self _ c.requires (sym (ap (λ (r : Run). r.settings) c.in-Ok.ensures.ok.grown))
