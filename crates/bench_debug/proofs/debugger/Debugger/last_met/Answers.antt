use Rattle.std.proofs.Common.{◌∙◌, ◌-◌, List, ap, arith, sym}
use Rattle.std.specs.Prelude.{slice_get}
use Rattle.bench_item.specs.declared.entry.Entry.{Entry}
use Rattle.bench_debug.specs.Meets.{first_met}
use Rattle.bench_debug.specs.declared.debugger.SetBreakpoint.{SetBreakpoint}
use Rattle.bench_debug.proofs.MetLemmas.{met_before, none_before}
use Rattle.bench_debug.proofs.debugger.Debugger.last_met.Goals as goal

pub returns-in-Some-first_met : goal.returns-in-Some-first_met
returns-in-Some-first_met c =
    let at = sym (ap (λ (log : List Entry). slice_get log (c.entries.place - 1)) c.log.ensures) ∙ sym c.in_ok-entry.ensures.entry ∙ c.in-Some.is in
    let met = ap (λ (set : List SetBreakpoint). first_met set c.in-Some.entry) (sym c.deref.ensures.value) ∙ sym c.in-Some-first_met.ensures in
    met_before c.args.self.now.progress.set.items c.args.self.now.core.log c.entries.place c.in-Some.entry c.in-Some-first_met.met c.entries-test.true at met c.entries.invariant.1

pub entries-preserved : goal.entries-preserved
entries-preserved c =
    let at = sym (ap (λ (log : List Entry). slice_get log (c.entries.place - 1)) c.log.ensures) ∙ sym c.in_ok-entry.ensures.entry ∙ c.in-Some.is in
    let missed = ap (λ (set : List SetBreakpoint). first_met set c.in-Some.entry) (sym c.deref.ensures.value) ∙ sym c.first_met.ensures ∙ c.in_default-first_met.is in (
      omega (arith, c.entries.invariant.0),
      none_before c.args.self.now.progress.set.items c.args.self.now.core.log c.entries.place c.in-Some.entry c.entries-test.true at missed c.entries.invariant.1,
    )
