use Rattle.std.proofs.Common.{◌∙◌, None, ap, sym, subst, arith}
use Rattle.std.specs.FinSet as set
use Rattle.std.specs.Map.{keys_of}
use Rattle.tick_wheel.specs.Places.{armed_of, NoneDueBefore}
use Rattle.tick_wheel.specs.Timers.{with_timer_of}
use Rattle.tick_wheel.proofs.PlaceLemmas.{armed_of-put_none, keys_of-set_value, NoneDueBefore-with_timer}
use Rattle.tick_wheel.proofs.wheel.Wheel.disarm.Goals as goal

pub invariant_of-self : goal.invariant_of-self
invariant_of-self c =
    let places = c.self.inside.places.entries in
    let is = ap armed_of c.put.ensures ∙ armed_of-put_none places c.args.owner in
    subst (NoneDueBefore c.self.inside.earliest) (sym is)
    (NoneDueBefore-with_timer (armed_of places) c.args.owner None c.self.inside.earliest c.self.inside.earliest (omega arith) c.self.invariant tt)

pub returns : goal.returns
returns c =
    let places = c.self.inside.places.entries in
    let armed = ap armed_of c.put.ensures ∙ armed_of-put_none places c.args.owner in
    let owners = ap keys_of c.put.ensures ∙ keys_of-set_value places c.args.owner None in
    (λ i. record { moment = c.self.inside.moment; armed = armed i; places = set.from_list (owners i) })
    ∙ ap (λ w. with_timer_of w c.args.owner None) c.self.view_is
