use Rattle.std.proofs.Common.{◌∙◌, ap}
use Rattle.bench_spec.specs.Taken.{Run}
use Rattle.role_tables.specs.Roles.{all_laws}
use Rattle.bench_node.proofs.OpenLemmas.{opened_laws}
use Rattle.bench_node.proofs.open.open_bench.Goals as goal

-- its laws are those of the first registry
pub returns-in-Ok-clause-laws : goal.returns-in-Ok-clause-laws
returns-in-Ok-clause-laws g c =
    ap (λ (run : Run). run.settings.node.laws) c.in-Ok.ensures.ok.1
    ∙ opened_laws (λ r. r.book) c.args.registries.now c.args.config all_laws c.in-Ok.ensures.ok.0 c.requires
