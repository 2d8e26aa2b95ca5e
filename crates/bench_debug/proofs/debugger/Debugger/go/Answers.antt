use Rattle.std.proofs.Common.{◌≡◌, ◌∙◌, List, Option, ap, subst, sym}
use Rattle.std.specs.Prelude.{MatchOption}
use Rattle.bench_item.specs.declared.entry.Entry.{Entry}
use Rattle.bench_script.proofs.RanLemmas.{run_by_same}
use Rattle.bench_debug.specs.Debug.{IsAtEnd, StepsTo, debugging}
use Rattle.bench_debug.specs.Meets.{first_met}
use Rattle.bench_debug.specs.declared.debugger.SetBreakpoint.{SetBreakpoint}
use Rattle.bench_debug.proofs.GoingLemmas.{forward_same, passed_more, passed_start, stopped_by}
use Rattle.bench_debug.proofs.debugger.Debugger.go.Goals as goal

pub steps-init : goal.steps-init
steps-init g c = passed_start (debugging c.args.self.now.core c.args.self.now.progress)

-- the registries are still those of the bench
pub take-requires : goal.take-requires
take-requires g c =
    run_by_same c.args.self.now.core c.steps.self.core _ c.requires
    (forward_same (debugging c.args.self.now.core c.args.self.now.progress) (debugging c.steps.self.core c.steps.self.progress) c.steps.invariant.count c.steps.invariant.forward)

pub returns-in-Some-first_met : goal.returns-in-Some-first_met
returns-in-Some-first_met g c =
    let mid = debugging c.steps.self.core c.steps.self.progress in
    let new = debugging c.take.new.self.core c.take.new.self.progress in
    let s = subst (λ (o : Option Entry). MatchOption o (IsAtEnd mid × (new ≡ mid)) (StepsTo mid new)) c.in-Some.is c.in_ok-entry.ensures.step in
    let met = ap (λ (set : List SetBreakpoint). first_met set c.in-Some.entry) (sym c.deref.ensures.value) ∙ sym c.in-Some-first_met.ensures in
    stopped_by (debugging c.args.self.now.core c.args.self.now.progress) mid new c.in-Some.entry _ c.in-Some-first_met.number c.steps.invariant s met c.place.ensures

pub steps-preserved : goal.steps-preserved
steps-preserved g c =
    let mid = debugging c.steps.self.core c.steps.self.progress in
    let new = debugging c.take.new.self.core c.take.new.self.progress in
    let s = subst (λ (o : Option Entry). MatchOption o (IsAtEnd mid × (new ≡ mid)) (StepsTo mid new)) c.in-Some.is c.in_ok-entry.ensures.step in
    let none = ap (λ (set : List SetBreakpoint). first_met set c.in-Some.entry) (sym c.deref.ensures.value) ∙ sym c.first_met.ensures ∙ c.in_default-first_met.is in
    passed_more (debugging c.args.self.now.core c.args.self.now.progress) mid new c.in-Some.entry c.steps.invariant s none
