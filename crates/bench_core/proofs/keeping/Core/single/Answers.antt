use Rattle.std.proofs.Common.{subst}
use Rattle.bench_core.specs.Inside.{settings_in, stored_in}
use Rattle.bench_core.specs.Replaying.{IsSingle}
use Rattle.bench_core.proofs.LegalLemmas.{legal_order}
use Rattle.bench_core.proofs.ReplayLemmas.{single-entry}
use Rattle.bench_core.proofs.keeping.Core.single.Goals as goal

pub returns : goal.returns
returns c =
    let w = c.self.inside in
    subst (λ run. IsSingle run.settings run.log c.args.step.now) c.self.view_is
    (single-entry (settings_in w) w.log.entries (stored_in w) c.args.step.now c.self.invariant.whole.tied
    (legal_order (settings_in w) w.log.entries c.self.invariant.whole.legal) c.requires)
