use Rattle.std.proofs.Common.{ap, refl}
use Rattle.bench_spec.specs.Taken.{Run}
use Rattle.bench_script.specs.Printed.{taken_text}
use Rattle.bench_script.proofs.RanLemmas.{count-is, each-has}
use Rattle.bench_script.proofs.steps.take_next.Goals as goal

-- the last entry is that of the step
pub returns-in_ok-put_last-in-Ok : goal.returns-in_ok-put_last-in-Ok
returns-in_ok-put_last-in-Ok g c =
    record {
      text = taken_text c.step.new.self c.in-Ok.ensures.ok.entry;
      put = c.in_ok-put_last-in-Ok.ensures c.args.core.now.log c.in-Ok.ensures.ok.entry (ap (λ (run : Run). run.log) c.in-Ok.ensures.ok.grown);
      does = record { takes = c.in-Ok.ensures.ok; told = refl };
    }

-- the registries are those of the bench
pub step-requires-clause-laws : goal.step-requires-clause-laws
step-requires-clause-laws g c = each-has _ _ _ _ c.requires.by.same

pub step-requires-clause-count : goal.step-requires-clause-count
step-requires-clause-count g c = count-is _ _ _ _ c.requires.by.same
