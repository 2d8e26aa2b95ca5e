use Rattle.std.proofs.Common.{◌∙◌, [], ap, map, subst, sym}
use Rattle.std.specs.Prelude.{max}
use Rattle.std.specs.Arc.{arc_value}
use Rattle.tick_wheel.specs.Timers.{Timers}
use Rattle.bench_spec.specs.Merged.{Stamped}
use Rattle.live_parts.specs.Clocks.{AreDue, ClockView, clock_view}
use Rattle.live_parts.proofs.ClockLemmas.{pass-view, so-either}
use Rattle.live_parts.proofs.DueLemmas.{as-due, from-due}
use Rattle.live_parts.proofs.clock.ClockPart.pass.Goals as goal

pub invariant_of-self : goal.invariant_of-self
invariant_of-self c =
    let i = c.self.inside in
    so-either c.pass_time.result i.wheel c.pass_time.new.wheel i.keys.entries i.outbox.view (map (λ (s : Stamped). s.entry) i.log.entries)
    (max c.args.moment i.wheel.moment) c.pass_time.ensures.passed c.pass_time.ensures.due c.self.invariant

pub returns-clause-passed : goal.returns-clause-passed
returns-clause-passed c = λ is.
    let i = c.self.inside in
    let p = c.pass_time.ensures.passed is in (
      subst (λ (v : ClockView). AreDue v c.args.moment []) c.self.view_is
          (as-due i.wheel.armed i.keys.entries (max c.args.moment i.wheel.moment) [] c.self.invariant.known p.0),
      pass-view (arc_value i.roles).laws i.wheel c.pass_time.new.wheel i.keys.entries i.outbox.view i.log.entries c.args.moment c.args.self.now c.self.view_is p.1 p.0,
    )

pub returns-clause-due : goal.returns-clause-due
returns-clause-due c = λ is.
    let i = c.self.inside in
    let d = c.pass_time.ensures.due is in (
      λ none.
          d.0 (from-due i.wheel.armed i.keys.entries (max c.args.moment i.wheel.moment) [] c.self.invariant.known
          (subst (λ (v : ClockView). AreDue v c.args.moment []) (sym c.self.view_is) none)),
      ap (λ (w : Timers). clock_view (arc_value i.roles).laws w i.keys.entries i.outbox.view i.log.entries) d.1 ∙ c.self.view_is,
    )
