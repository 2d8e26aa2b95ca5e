use Rattle.std.proofs.Common.{◌≡◌, ◌∙◌, ℕ, List, [], ap, sym, subst, length}
use Rattle.tick_wheel.specs.declared.timer.Firing.{Firing}
use Rattle.tick_wheel.specs.Places.{armed_of}
use Rattle.tick_wheel.specs.Timers.{AreFired, ByOwner, reached}
use Rattle.tick_wheel.proofs.DueLemmas.{AreFired-before, AreFired-only}
use Rattle.tick_wheel.proofs.CountLemmas.{length-AreFired}
use Rattle.tick_wheel.proofs.wheel.Wheel.due_at.Goals as goal

-- the firings, as the places have them
as_kept : (armed seen : ByOwner) (now reached : ℕ) (fired : List Firing) → armed ≡ seen → now ≡ reached
    → AreFired seen reached fired → AreFired armed now fired
as_kept armed seen now reached fired shown at are =
    subst (λ m. AreFired armed m fired) (sym at) (subst (λ a. AreFired a reached fired) (sym shown) are)

-- before the bound nothing is due
pub returns-then-self-reached : goal.returns-then-self-reached
returns-then-self-reached c fired are =
    let armed = armed_of c.self.inside.places.entries in
    let at : c.max-reached.result ≡ reached c.args.self.now c.args.moment =
    c.max-reached.ensures ∙ ap (λ w. reached w c.args.moment) c.self.view_is in
    let kept = as_kept armed c.args.self.now.armed c.max-reached.result (reached c.args.self.now c.args.moment) fired (ap (λ w. w.armed) c.self.view_is) at are in
    ap length (AreFired-only armed c.max-reached.result [] fired (AreFired-before armed c.self.inside.earliest c.max-reached.result c.self.invariant c.if-self-reached.true) kept)

pub returns : goal.returns
returns c fired are =
    let places = c.self.inside.places.entries in
    let at : c.max-reached.result ≡ reached c.args.self.now c.args.moment =
    c.max-reached.ensures ∙ ap (λ w. reached w c.args.moment) c.self.view_is in
    let kept = as_kept (armed_of places) c.args.self.now.armed c.max-reached.result (reached c.args.self.now c.args.moment) fired (ap (λ w. w.armed) c.self.view_is) at are in
    c.count_due.ensures.count ∙ length-AreFired c.max-reached.result places c.count_due.ensures.unique fired kept
