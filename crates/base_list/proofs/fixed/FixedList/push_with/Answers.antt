use Rattle.std.proofs.Common.{◌≡◌, ◌<◌, ◌≤◌, length, arith, refl}
use Rattle.std.proofs.lemmas.List.{take_more_set, length-take-le}
use Rattle.base_list.proofs.fixed.FixedList.push_with.Goals as goal

pub returns : goal.returns
returns g c =
    let all : c.self.inside.count ≤ length c.self.inside.room = omega (arith, c.self.invariant) in
    let value : length c.args.self.now ≡ c.self.inside.count = rw (← c.self.view_is) (length-take-le c.self.inside.count c.self.inside.room all) in
    let within : c.self.inside.count < length c.self.inside.room = omega (arith, c.self.invariant.1, c.requires.room, value) in (
      _,
      c.fill.new.arg2,
      record { shown = _; shows = refl; left = _; met = c.fill.ensures; leaves = refl },
      rw (← c.self.view_is) (take_more_set c.self.inside.room c.self.inside.count c.fill.new.arg2 within),
    )
