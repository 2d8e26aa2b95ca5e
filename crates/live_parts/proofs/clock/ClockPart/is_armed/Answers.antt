use Rattle.std.proofs.Common.{◌∙◌, false, Option, ap, sym}
use Rattle.std.specs.Prelude.{◌==◌}
use Rattle.std.specs.Option.{option_map_or}
use Rattle.tick_wheel.specs.declared.timer.Armed.{Armed}
use Rattle.live_parts.specs.Clocks.{ClockView, timer_of}
use Rattle.live_parts.proofs.DueLemmas.{timer-at}
use Rattle.live_parts.proofs.clock.ClockPart.is_armed.Goals as goal

pub returns-in-None : goal.returns-in-None
returns-in-None c =
    ap (λ (o : Option Armed). option_map_or (λ t. t.generation == c.args.generation) o false)
    (c.in-None.ensures.armed
    ∙ sym (timer-at c.self.inside.wheel.armed c.self.inside.keys.entries c.args.machine c.self.invariant.known)
    ∙ ap (λ (v : ClockView). timer_of v c.args.machine) c.self.view_is)

pub returns-in-Some : goal.returns-in-Some
returns-in-Some c =
    ap (λ (o : Option Armed). option_map_or (λ t. t.generation == c.args.generation) o false)
    (c.in-Some.ensures.armed
    ∙ sym (timer-at c.self.inside.wheel.armed c.self.inside.keys.entries c.args.machine c.self.invariant.known)
    ∙ ap (λ (v : ClockView). timer_of v c.args.machine) c.self.view_is)
