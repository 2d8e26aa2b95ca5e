use Rattle.std.proofs.Common.{◌∙◌, None, ap, sym, is_some}
use Rattle.std.specs.Option.{unwrap_or}
use Rattle.std.specs.FinMap as fin
use Rattle.std.specs.FinSet as set
use Rattle.tick_wheel.proofs.PlaceLemmas.{get-armed_of, contains-places}
use Rattle.tick_wheel.proofs.wheel.Wheel.armed.Goals as goal

pub returns-in-Some-clause-armed : goal.returns-in-Some-clause-armed
returns-in-Some-clause-armed c =
    ap (λ found. unwrap_or found None) c.in-Some.ensures.value
    ∙ sym (get-armed_of c.self.inside.places.entries c.args.owner)
    ∙ ap (λ w. fin.get w.armed c.args.owner) c.self.view_is

pub returns-in-Some-clause-placed : goal.returns-in-Some-clause-placed
returns-in-Some-clause-placed c is =
    ap (λ w. set.contains w.places c.args.owner) (sym c.self.view_is)
    ∙ contains-places c.self.inside.places.entries c.args.owner
    ∙ ap is_some (sym c.in-Some.ensures.value)

pub returns-in-None-clause-armed : goal.returns-in-None-clause-armed
returns-in-None-clause-armed c =
    ap (λ found. unwrap_or found None) c.in-None.ensures.value
    ∙ sym (get-armed_of c.self.inside.places.entries c.args.owner)
    ∙ ap (λ w. fin.get w.armed c.args.owner) c.self.view_is
