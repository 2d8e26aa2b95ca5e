use Rattle.std.proofs.Common.{◌∙◌, ap, sym}
use Rattle.std.specs.FinSet as set
use Rattle.tick_wheel.proofs.PlaceLemmas.{contains-places}
use Rattle.tick_wheel.proofs.wheel.Wheel.has_place.Goals as goal

pub returns : goal.returns
returns c =
    c.contains_key.ensures
    ∙ sym (contains-places c.self.inside.places.entries c.args.owner)
    ∙ ap (λ w. set.contains w.places c.args.owner) c.self.view_is
