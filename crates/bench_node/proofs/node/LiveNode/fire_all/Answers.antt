use Rattle.std.proofs.Common.{◌∙◌, refl}
use Rattle.tick_wheel.specs.declared.timer.Firing.{Firing}
use Rattle.bench_node.proofs.FireLemmas.{fire_next}
use Rattle.bench_node.proofs.GoingLemmas.{goes_on, goes_refl}
use Rattle.bench_node.specs.Firings.{nothing}
use Rattle.bench_node.proofs.node.LiveNode.fire_all.Goals as goal

-- none fired yet
pub firings-init : goal.firings-init
firings-init g c = record { goes = goes_refl c.args.self.now; same = refl; fire = nothing }

-- one more
pub firings-preserved : goal.firings-preserved
firings-preserved g c =
    let one = c.in_ok-fire.ensures in
    let none : Firing = record { due = 0; owner = 0; generation = 0 } in
    record {
      goes = goes_on c.args.self.now c.firings.self c.fire.new.self c.firings.invariant.goes one.goes;
      same = one.same ∙ c.firings.invariant.same;
      fire = fire_next c.args.self.now c.firings.self c.fire.new.self c.args.due.now c.firings.firing-index _ none c.firings-test.true refl c.firings.invariant.fire one.fires;
    }
