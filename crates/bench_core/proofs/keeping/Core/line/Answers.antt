use Rattle.std.proofs.Common.{◌≡◌, ◌∙◌, subst}
use Rattle.bench_spec.specs.Lines.{line_state}
use Rattle.bench_views.proofs.LineViews.{state_on-log}
use Rattle.bench_core.specs.Inside.{settings_in}
use Rattle.bench_core.proofs.keeping.Core.line.Goals as goal

pub returns : goal.returns
returns c =
    let w = c.self.inside in
    subst (λ run. c.state.result ≡ line_state run.settings run.log c.args.line) c.self.view_is
    (c.state.ensures ∙ state_on-log (settings_in w) w.lines.lines w.log.entries c.args.line c.self.invariant.whole.tied.lines)
