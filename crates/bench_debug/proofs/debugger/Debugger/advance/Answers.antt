use Rattle.std.proofs.Common.{◌∙◌, List, ap, sym}
use Rattle.std.specs.Prelude.{slice_get}
use Rattle.script_text.specs.declared.asked.ScriptStep.{ScriptStep}
use Rattle.bench_debug.specs.Debug.{debugging}
use Rattle.bench_debug.proofs.BackLemmas.{advanced_by, refused_by, short_at}
use Rattle.bench_debug.proofs.debugger.Debugger.advance.Goals as goal

pub returns-in-Ok-take_step-clause-step : goal.returns-in-Ok-take_step-clause-step
returns-in-Ok-take_step-clause-step g c =
    advanced_by (debugging c.args.self.now.core c.args.self.now.progress) _ c.in-Some.ask.now c.in-Ok.step
    (ap (λ (xs : List ScriptStep). slice_get xs c.args.self.now.progress.next) (sym c.deref.ensures.value) ∙ sym c.in-Some.ensures.asked)
    c.in-Ok.ensures.step c.in-Ok-take_step.ensures.ok.0 c.in-Ok-take_step.ensures.ok.1

pub returns-in-Err-take_step-clause-fault : goal.returns-in-Err-take_step-clause-fault
returns-in-Err-take_step-clause-fault g c =
    short_at (debugging c.args.self.now.core c.args.self.now.progress) _ c.in-Some.ask.now c.in-Ok.step
    (ap (λ (xs : List ScriptStep). slice_get xs c.args.self.now.progress.next) (sym c.deref.ensures.value) ∙ sym c.in-Some.ensures.asked)
    c.in-Ok.ensures.step c.in-Ok.ensures.could c.in-Err-take_step.ensures.err

pub returns-in-Err-clause-fault : goal.returns-in-Err-clause-fault
returns-in-Err-clause-fault g c =
    refused_by (debugging c.args.self.now.core c.args.self.now.progress) _ c.in-Some.ask.now c.in-Err.fault
    (ap (λ (xs : List ScriptStep). slice_get xs c.args.self.now.progress.next) (sym c.deref.ensures.value) ∙ sym c.in-Some.ensures.asked)
    c.in-Err.ensures.fault c.pass.ensures
