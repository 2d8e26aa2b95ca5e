use Rattle.std.proofs.Common.{◌≡◌, ◌∙◌, ap, subst}
use Rattle.bench_item.specs.declared.step.Step.TheVariants as steps
use Rattle.bench_spec.specs.Refusal.{refusal}
use Rattle.bench_core.specs.Faults.{line_fault_or}
use Rattle.bench_core.specs.Inside.{paused_in, settings_in, stored_in}
use Rattle.bench_core.proofs.LineFaults.{lost-log, full-log}
use Rattle.bench_core.proofs.keeping.Core.lost_fault.Goals as goal

pub returns : goal.returns
returns c =
    let w = c.self.inside in
    subst (λ run. c.line_fault_or.result ≡ refusal run.settings run.log run.paused (steps.Lost c.args.line)) c.self.view_is
    (c.line_fault_or.ensures ∙ ap (λ f. line_fault_or f c.is_full-full.result) c.lost_fault-fault.ensures ∙ ap (line_fault_or _) (c.is_full-full.ensures ∙ full-log w.log.entries)
    ∙ lost-log (settings_in w) w.log.entries (paused_in w) (stored_in w) c.args.line c.self.invariant.whole.tied)
