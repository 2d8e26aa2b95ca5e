use Rattle.std.proofs.Common.{◌≡◌, ◌∙◌, ap, subst}
use Rattle.std.specs.Prelude.{max}
use Rattle.tick_wheel.specs.Timers.{AreFired}
use Rattle.live_parts.specs.Clocks.{AreDue, ClockView}
use Rattle.live_parts.proofs.DueLemmas.{as-due, due-sorted}
use Rattle.live_parts.proofs.clock.ClockPart.due.Goals as goal

pub returns : goal.returns
returns c =
    let i = c.self.inside in
    let armed = i.wheel.armed in
    let items = c.sort.new.firings.items in
    let now_is : c.max-now.result ≡ max c.args.moment i.wheel.moment = c.max-now.ensures ∙ ap (max c.args.moment) c.moment.ensures in
    let fired : AreFired armed c.max-now.result items =
    due-sorted armed i.keys.entries c.max-now.result c.in_ok-due.due.items items c.in_ok-due.ensures.unique c.self.invariant.known c.in_ok-due.ensures.due
    c.sort.ensures.same c.sort.ensures.ordered in
    subst (λ (v : ClockView). AreDue v c.args.moment items) c.self.view_is
    (as-due armed i.keys.entries (max c.args.moment i.wheel.moment) items c.self.invariant.known (subst (λ n. AreFired armed n items) now_is fired))
