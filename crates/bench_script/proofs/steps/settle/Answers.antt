use Rattle.std.proofs.Common.{◌∙◌, ap, arith, length, refl, sym}
use Rattle.bench_script.specs.Ran.{begun, further}
use Rattle.bench_script.proofs.LogLemmas.{grown_by_one}
use Rattle.bench_script.proofs.RanLemmas.{run_by_same, prints_more, prints_nothing, same_settings}
use Rattle.bench_script.proofs.steps.settle.Goals as goal

-- no step was taken
pub steps-init : goal.steps-init
steps-init g c = (refl, prints_nothing c.args.out.now.items begun)

-- the registries are still those of the bench
pub take_next-requires-clause-by : goal.take_next-requires-clause-by
take_next-requires-clause-by g c = run_by_same c.args.core.now c.steps.core _ c.requires (sym c.steps.invariant.0)

pub take_next-requires-clause-next : goal.take_next-requires-clause-next
take_next-requires-clause-next g c = sym c.in-Some.ensures

-- one more was
pub steps-preserved : goal.steps-preserved
steps-preserved g c = (
  same_settings c.steps.core c.take_next.new.core c.in-Some.step c.in_ok-take_next.ensures.does.takes ∙ c.steps.invariant.0,
  prints_more
      (λ text more p q. further c.steps.core c.take_next.new.core c.in-Some.step text more p (sym c.in-Some.ensures) q)
      c.steps.invariant.1
      c.in_ok-take_next.ensures,
)

-- and the log has room for one less
pub steps-smaller : goal.steps-smaller
steps-smaller g c =
    omega (arith, grown_by_one c.steps.core c.take_next.new.core c.in-Some.step c.in_ok-take_next.ensures.does.takes, ap length c.log.ensures)

-- nothing is left that could be taken
pub returns : goal.returns
returns g c =
    record {
      text = c.steps.invariant.1.text;
      put = c.steps.invariant.1.put;
      does = record { steps = c.steps.invariant.1.does; settled = sym c.in_default.ensures };
    }
