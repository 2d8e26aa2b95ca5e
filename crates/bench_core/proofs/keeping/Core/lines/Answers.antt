use Rattle.std.proofs.Common.{◌≡◌, ◌∙◌, length, subst}
use Rattle.bench_spec.specs.Lines.{openings}
use Rattle.bench_views.specs.Stored.{meaning_of}
use Rattle.bench_views.proofs.LineStands.{length_lines}
use Rattle.bench_core.specs.Inside.{settings_in}
use Rattle.bench_core.proofs.keeping.Core.lines.Goals as goal

pub returns : goal.returns
returns c =
    let w = c.self.inside in
    subst (λ run. c.count.result ≡ length (openings run.log)) c.self.view_is
    (c.count.ensures ∙ length_lines (meaning_of (settings_in w)) w.lines.lines w.log.entries c.self.invariant.whole.tied.lines)
