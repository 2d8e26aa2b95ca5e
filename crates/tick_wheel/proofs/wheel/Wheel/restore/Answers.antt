use Rattle.std.proofs.Common.{◌≡◌, ◌∙◌, true, ap, sym, subst, is_some, nat_eq}
use Rattle.std.specs.FinSet as set
use Rattle.std.specs.Map.{keys_of, lookup}
use Rattle.tick_wheel.specs.Places.{armed_of, bound_with, NoneDueBefore}
use Rattle.tick_wheel.specs.Timers.{with_timer, with_timer_of}
use Rattle.tick_wheel.proofs.CallerLemmas.{with_timer-back}
use Rattle.tick_wheel.proofs.PlaceLemmas.{armed_of-put, keys_of-set_value, contains-places, bound_with-allows, NoneDueBefore-with_timer}
use Rattle.tick_wheel.proofs.wheel.Wheel.restore.Goals as goal

-- the owner has a place, so the timer is put there
armed_is : (c : goal.After-put)
    → armed_of c.put.new.places.entries ≡ with_timer (armed_of c.self.inside.places.entries) c.args.owner c.args.old
armed_is c =
    let places = c.self.inside.places.entries in
    let there : is_some (lookup (nat_eq c.args.owner) places) ≡ true =
    sym (contains-places places c.args.owner) ∙ ap (λ w. set.contains w.places c.args.owner) c.self.view_is ∙ c.requires in
    ap armed_of c.put.ensures ∙ armed_of-put places c.args.owner c.args.old there

pub invariant_of-self : goal.invariant_of-self
invariant_of-self c =
    let earliest = c.self.inside.earliest in
    let allows = bound_with-allows earliest c.args.old in
    let bounded : NoneDueBefore (bound_with earliest c.args.old) (armed_of c.put.new.places.entries) =
    subst (NoneDueBefore (bound_with earliest c.args.old)) (sym (armed_is c))
    (NoneDueBefore-with_timer (armed_of c.self.inside.places.entries) c.args.owner c.args.old earliest (bound_with earliest c.args.old) allows.0 c.self.invariant allows.1) in
    subst (λ n. NoneDueBefore n (armed_of c.put.new.places.entries)) (sym c.bound_with-self-inside.ensures) bounded

pub returns-clause-restored : goal.returns-clause-restored
returns-clause-restored c =
    let owners = ap keys_of c.put.ensures ∙ keys_of-set_value c.self.inside.places.entries c.args.owner c.args.old in
    (λ i. record { moment = c.self.inside.moment; armed = armed_is c i; places = set.from_list (owners i) })
    ∙ ap (λ w. with_timer_of w c.args.owner c.args.old) c.self.view_is

-- what the change did to the timer is undone
pub returns-clause-back : goal.returns-clause-back
returns-clause-back c before timer changed had =
    let new = ap (λ w. w.armed) (returns-clause-restored c) in
    let moment = ap (λ w. w.moment) (returns-clause-restored c) in
    (moment ∙ changed.0, new ∙ (λ i. with_timer (changed.1 i) c.args.owner (had i)) ∙ with_timer-back before.armed c.args.owner timer)
