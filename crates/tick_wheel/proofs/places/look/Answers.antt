use Rattle.std.proofs.Common.{◌≡◌, ◌∙◌, ◌++◌, append-nil, sym, ap, arith}
use Rattle.tick_wheel.specs.Places.{firings_of, next_due}
use Rattle.tick_wheel.proofs.PlaceLemmas.{found-none, found-not_none, found-some, least-step, next_due-le, of_error}
use Rattle.tick_wheel.proofs.places.look.Goals as goal

pub loop-owner-init : goal.loop-owner-init
loop-owner-init c =
    let start : c.into_iter-owner-iterator.result ≡ c.args.places.now.entries =
    c.into_iter-owner-iterator.ensures.into_iter_gives.0 in
    let upper = next_due-le c.args.now c.args.places.now.entries in
    let e = ap (next_due c.args.now) start in
    record {
      found =
          ap (λ due. due ++ firings_of c.args.now c.into_iter-owner-iterator.result) c.new-due.ensures.items
          ∙ ap (firings_of c.args.now) start;
      bounded = omega arith;
      least = omega arith;
    }

pub returns-clause-earliest : goal.returns-clause-earliest
returns-clause-earliest c = let e = ap (next_due c.args.now) c.in-None.ensures.steps.0 in omega arith

pub loop-owner-preserved-in-Continue-1 : goal.loop-owner-preserved-in-Continue-1
loop-owner-preserved-in-Continue-1 c =
    let steps = c.in-Some.ensures.steps in
    let some = sym c.firing_of.ensures ∙ c.in-Some-firing_of.is in
    let before = c.loop-owner.invariant.bounded in
    let least = c.min-earliest.ensures in
    record {
      found = found-some _ _ _ _ _ _ _ _ c.loop-owner.invariant.found steps some c.in_ok-push.ensures.items;
      bounded = omega arith;
      least = least-step _ _ _ _ _ _ _ _ c.loop-owner.invariant.least steps c.later_due.ensures least;
    }

pub loop-owner-preserved : goal.loop-owner-preserved
loop-owner-preserved c =
    let steps = c.in-Some.ensures.steps in
    let none = sym c.firing_of.ensures ∙ c.in_default.is in
    let before = c.loop-owner.invariant.bounded in
    let least = c.min-earliest.ensures in
    record {
      found = found-none _ _ _ _ _ _ c.loop-owner.invariant.found steps none;
      bounded = omega arith;
      least = least-step _ _ _ _ _ _ _ _ c.loop-owner.invariant.least steps c.later_due.ensures least;
    }

pub returns-in_err-push-clause-err : goal.returns-in_err-push-clause-err
returns-in_err-push-clause-err c =
    let some = sym c.firing_of.ensures ∙ c.in-Some-firing_of.is in
    of_error c.from_residual.result _ (found-not_none _ _ _ _ _ _ _ c.loop-owner.invariant.found c.in-Some.ensures.steps some)

pub returns-clause-due : goal.returns-clause-due
returns-clause-due c =
    sym (append-nil c.loop-owner.due.items)
    ∙ ap (λ rest. c.loop-owner.due.items ++ firings_of c.args.now rest) (sym c.in-None.ensures.steps.0)
    ∙ c.loop-owner.invariant.found
