use Rattle.std.proofs.Common.{◌≡◌, ◌∙◌, false, Option, Some, ap, sym, subst, is_some, true≢false, nat_eq}
use Rattle.std.specs.FinSet as set
use Rattle.std.specs.Map.{keys_of, lookup}
use Rattle.tick_wheel.specs.declared.timer.Armed.{Armed}
use Rattle.tick_wheel.specs.Places.{armed_of, bound_with, NoneDueBefore}
use Rattle.tick_wheel.specs.Timers.{after_arm, with_timer}
use Rattle.tick_wheel.proofs.PlaceLemmas.{of_error, armed_of-updated, places-updated, contains-places, bound_with-allows, NoneDueBefore-with_timer}
use Rattle.tick_wheel.proofs.wheel.Wheel.arm.Goals as goal

-- an insert that is refused is of a new owner
pub returns-in_err-insert-clause-fresh : goal.returns-in_err-insert-clause-fresh
returns-in_err-insert-clause-fresh c =
    of_error c.from_residual.result _ (λ placed.
    let places = c.self.inside.places.entries in
    let absent : is_some (lookup (nat_eq c.args.owner) places) ≡ false = ap is_some c.in_err-insert.ensures.absent in
    true≢false (sym placed ∙ ap (λ w. set.contains w.places c.args.owner) (sym c.self.view_is) ∙ contains-places places c.args.owner ∙ absent))

-- the timer that is armed
timer : goal.After-self-1 → Option Armed
timer c = Some (record { generation = c.args.generation; due = c.saturating_add-due.result })

armed_is : (c : goal.After-self-1)
    → armed_of c.insert.new.self.entries ≡ with_timer (armed_of c.self.inside.places.entries) c.args.owner (timer c)
unfolding timer
armed_is c =
    armed_of-updated c.self.inside.places.entries c.insert.new.self.entries c.args.owner (timer c) c.in_ok-insert.ensures.updates.0

pub invariant_of-self-2 : goal.invariant_of-self-2
unfolding timer
invariant_of-self-2 c =
    let earliest = c.self.inside.earliest in
    let allows = bound_with-allows earliest (timer c) in
    let bounded : NoneDueBefore (bound_with earliest (timer c)) (armed_of c.insert.new.self.entries) =
    subst (NoneDueBefore (bound_with earliest (timer c))) (sym (armed_is c))
    (NoneDueBefore-with_timer (armed_of c.self.inside.places.entries) c.args.owner (timer c) earliest (bound_with earliest (timer c)) allows.0 c.self.invariant allows.1) in
    subst (λ n. NoneDueBefore n (armed_of c.insert.new.self.entries)) (sym c.bound_with-self-inside.ensures) bounded

pub returns-clause-ok : goal.returns-clause-ok
unfolding timer
returns-clause-ok c =
    let places = c.self.inside.places.entries in
    let owners =
    places-updated places c.insert.new.self.entries c.args.owner (timer c) c.in_ok-insert.ensures.updates.0 in
    let due = c.saturating_add-due.ensures in
    (λ i. record { moment = c.self.inside.moment; armed = armed_is c i; places = owners i })
    ∙ (λ i. record {
      moment = c.self.inside.moment;
      armed =
          with_timer (armed_of places) c.args.owner (Some (record { generation = c.args.generation; due = due i }));
      places = set.insert (set.from_list (keys_of places)) c.args.owner;
    })
    ∙ ap (λ w. after_arm w c.args.owner c.args.generation c.args.ticks) c.self.view_is
