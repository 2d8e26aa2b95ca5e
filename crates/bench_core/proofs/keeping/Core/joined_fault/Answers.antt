use Rattle.std.proofs.Common.{◌≡◌, ◌∷◌, [], ◌∙◌, ap, subst}
use Rattle.std.specs.Prelude.{◌||◌}
use Rattle.bench_item.specs.declared.step.Step.TheVariants as steps
use Rattle.bench_item.specs.declared.step.StepFault.TheVariants.{Full}
use Rattle.bench_spec.specs.Refusal.{is_log_full, refusal}
use Rattle.bench_core.specs.Faults.{first_of}
use Rattle.bench_core.specs.Inside.{paused_in, settings_in, stored_in}
use Rattle.bench_core.proofs.LineFaults.{full-log, joined-by, joined-log}
use Rattle.bench_core.proofs.keeping.Core.joined_fault.Goals as goal

pub returns : goal.returns
returns c =
    let w = c.self.inside in
    subst (λ run. c.held.result ≡ refusal run.settings run.log run.paused steps.Joined) c.self.view_is
    (joined-by c.is_full-full.result c.is_full-crowded.result c.held.result c.held-rest.result c.held-rest.ensures c.held.ensures
    ∙ ap (λ b. first_of ((b || c.is_full-crowded.result, Full) ∷ [])) (c.is_full-full.ensures ∙ full-log w.log.entries)
    ∙ ap (λ b. first_of ((is_log_full w.log.entries || b, Full) ∷ [])) c.is_full-crowded.ensures
    ∙ joined-log (settings_in w) w.log.entries (paused_in w) (stored_in w) c.self.invariant.whole.tied)
