use Rattle.std.proofs.Common.{◌≡◌, ◌∙◌, subst}
use Rattle.bench_spec.specs.Settings.{table_of}
use Rattle.bench_core.proofs.NameLemmas.{table-same}
use Rattle.bench_core.proofs.keeping.Core.table.Goals as goal

pub returns : goal.returns
returns c =
    subst (λ run. c.table.result.now ≡ table_of run.settings c.args.role) c.self.view_is (c.table.ensures ∙ table-same c.self.inside c.args.role)
