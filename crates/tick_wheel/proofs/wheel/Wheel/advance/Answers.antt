use Rattle.std.proofs.Common.{◌≡◌, ◌∙◌, ℕ, List, ap, sym, subst}
use Rattle.std.specs.FinSet as set
use Rattle.std.specs.List.Sorted.{IsPermutation}
use Rattle.std.specs.Map.{keys_of}
use Rattle.tick_wheel.specs.declared.timer.Firing.{Firing}
use Rattle.tick_wheel.specs.Places.{armed_of, next_due, firings_of, NoneDueBefore}
use Rattle.tick_wheel.specs.Timers.{AreFired, ByOwner, IsDueFiring, after_advance, reached}
use Rattle.tick_wheel.proofs.DueLemmas.{AreFired-before, AreFired-only, AreFired-sorted, NoneDueBefore-next_due, retain-before, some_due}
use Rattle.tick_wheel.proofs.PlaceLemmas.{of_error, armed_of-places_at, keys_of-places_at}
use Rattle.tick_wheel.proofs.wheel.Wheel.advance.Goals as goal

-- the firings, as the old wheel is seen
as_seen : (armed seen : ByOwner) (now reached : ℕ) (fired : List Firing) → armed ≡ seen → now ≡ reached
    → AreFired armed now fired → AreFired seen reached fired
as_seen armed seen now reached fired shown at are =
    subst (λ m. AreFired seen m fired) at (subst (λ a. AreFired a now fired) shown are)

-- before the bound no timer is due, and all stay
pub returns-then-now-self-clause-ok : goal.returns-then-now-self-clause-ok
returns-then-now-self-clause-ok c =
    let armed = armed_of c.self.inside.places.entries in
    let stays = retain-before armed c.self.inside.earliest c.max-now.result c.self.invariant c.if-now-self.true in
    let at : c.max-now.result ≡ reached c.args.self.now c.args.moment =
    c.max-now.ensures ∙ ap (λ w. reached w c.args.moment) c.self.view_is in
    (λ i. record {
      moment =
          c.max-now.result;
      armed = sym stays i;
      places = set.from_list (keys_of c.self.inside.places.entries);
    })
    ∙ (λ i. after_advance (c.self.view_is i) (at i))

pub returns-then-now-self-clause-only : goal.returns-then-now-self-clause-only
returns-then-now-self-clause-only c other are =
    let armed = armed_of c.self.inside.places.entries in
    let at : c.max-now.result ≡ reached c.args.self.now c.args.moment =
    c.max-now.ensures ∙ ap (λ w. reached w c.args.moment) c.self.view_is in
    let none : AreFired armed c.max-now.result c.new.result.items =
    subst (AreFired armed c.max-now.result) (sym c.new.ensures.items) (AreFired-before armed c.self.inside.earliest c.max-now.result c.self.invariant c.if-now-self.true) in
    AreFired-only c.args.self.now.armed (reached c.args.self.now c.args.moment) other c.new.result.items are
    (as_seen armed c.args.self.now.armed c.max-now.result (reached c.args.self.now c.args.moment) c.new.result.items (ap (λ w. w.armed) c.self.view_is) at none)

-- memory was asked for, so something is due
pub returns-in_err-due-clause-due : goal.returns-in_err-due-clause-due
returns-in_err-due-clause-due c =
    let at : c.max-now.result ≡ reached c.args.self.now c.args.moment =
    c.max-now.ensures ∙ ap (λ w. reached w c.args.moment) c.self.view_is in
    let shown = ap (λ w. w.armed) c.self.view_is in
    let due =
    some_due c.max-now.result c.self.inside.places.entries c.in_err-due.ensures.unique c.in_err-due.ensures.err in
    let seen : IsDueFiring c.args.self.now.armed (reached c.args.self.now c.args.moment) due.0 =
    subst (λ m. IsDueFiring c.args.self.now.armed m due.0) at (subst (λ a. IsDueFiring a c.max-now.result due.0) shown due.1) in
    of_error c.from_residual.result _ (due.0, seen)

-- what is left is due from the next due moment on
pub invariant_of-self-2 : goal.invariant_of-self-2
invariant_of-self-2 c =
    let left = NoneDueBefore-next_due c.max-now.result c.self.inside.places.entries in
    subst (λ n. NoneDueBefore n (armed_of c.disarm_due.new.places.entries)) (sym c.in_ok-due.ensures.earliest)
    (subst (λ places. NoneDueBefore (next_due c.max-now.result c.self.inside.places.entries) (armed_of places)) (sym c.disarm_due.ensures) left)

pub returns-clause-ok : goal.returns-clause-ok
returns-clause-ok c =
    let places = c.self.inside.places.entries in
    let at : c.max-now.result ≡ reached c.args.self.now c.args.moment =
    c.max-now.ensures ∙ ap (λ w. reached w c.args.moment) c.self.view_is in
    let armed = ap armed_of c.disarm_due.ensures ∙ armed_of-places_at places c.max-now.result in
    let owners = ap keys_of c.disarm_due.ensures ∙ keys_of-places_at places c.max-now.result in
    (λ i. record { moment = c.max-now.result; armed = armed i; places = set.from_list (owners i) })
    ∙ (λ i. after_advance (c.self.view_is i) (at i))

-- what was found, sorted, is what fires
pub returns-clause-fired : goal.returns-clause-fired
returns-clause-fired c =
    let places = c.self.inside.places.entries in
    let at : c.max-now.result ≡ reached c.args.self.now c.args.moment =
    c.max-now.ensures ∙ ap (λ w. reached w c.args.moment) c.self.view_is in
    let moved : IsPermutation (firings_of c.max-now.result places) c.sort.new.firings.items =
    subst (λ due. IsPermutation due c.sort.new.firings.items) c.in_ok-due.ensures.due c.sort.ensures.same in
    as_seen (armed_of places) c.args.self.now.armed c.max-now.result (reached c.args.self.now c.args.moment) c.sort.new.firings.items (ap (λ w. w.armed) c.self.view_is) at
    (AreFired-sorted c.max-now.result places c.sort.new.firings.items c.in_ok-due.ensures.unique moved c.sort.ensures.ordered)

pub returns-clause-only : goal.returns-clause-only
returns-clause-only c other are =
    AreFired-only c.args.self.now.armed (reached c.args.self.now c.args.moment) other c.sort.new.firings.items are (returns-clause-fired c)
