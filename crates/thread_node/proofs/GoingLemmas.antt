-- Desks tell, items are carried and texts are drawn, one after the other.
use Rattle.std.proofs.Common.{◌≡◌, ◌≤◌, ◌∙◌, ◌++◌, ◌∷◌, List, [], Result, Ok, Err, OnErr, OnOk, ap, append-nil, arith, refl, subst, sym, true}
use Rattle.std.proofs.lemmas.List.{append_assoc}
use Rattle.std.proofs.lemmas.List.Folds.{list_all-append}
use Rattle.bench_item.specs.declared.step.Step.{Step}
use Rattle.thread_node.specs.Nodes.{AllGrow, Feeds, Goes, NodeView, is_carry}
use Rattle.thread_node.proofs.TextLemmas.{all_more, all_same}

-- nothing
pub goes_refl : (node : NodeView) → Goes node node
goes_refl node = record {
  same = refl;
  started = refl;
  told = omega arith;
  steps = [];
  carried = refl;
  fed = sym (append-nil node.fed);
  sent = all_same node.sent;
}

-- nothing, where a node is as it was
pub goes_none : (old new : NodeView) → new ≡ old → Goes old new
goes_none old new same = rw same (goes_refl old)

-- an item is carried
pub goes_one : (old new : NodeView) (step : Step) → is_carry step ≡ true → Feeds old step new → Goes old new
goes_one old new step is fed = rw (fed.1) (record {
  same = refl;
  started = refl;
  told = omega arith;
  steps = step ∷ [];
  carried = rw is refl;
  fed = refl;
  sent = all_same old.sent;
})

-- or isn't, where it was refused
pub goes_by : {T E : Type 0} (r : Result T E) (old new : NodeView) (step : Step) → is_carry step ≡ true → OnOk r (Feeds old step new)
    → OnErr r (new ≡ old) → Goes old new
goes_by (Ok done) old new step is ok err = goes_one old new step is ok
goes_by (Err fault) old new step is ok err = goes_none old new err

-- desks pass texts
pub goes_told : (old new : NodeView) → new ≡ record old { told = new.told } → old.told ≤ new.told → Goes old new
goes_told old new same more = record {
  same = ap (λ (node : NodeView). node.run) same;
  started = ap (λ (node : NodeView). node.started) same;
  told = more;
  steps = [];
  carried = refl;
  fed = ap (λ (node : NodeView). node.fed) same ∙ sym (append-nil old.fed);
  sent = subst (AllGrow old.sent) (sym (ap (λ (node : NodeView). node.sent) same)) (all_same old.sent);
}

-- texts are drawn
pub goes_drawn : (old new : NodeView) → new ≡ record old { sent = new.sent } → AllGrow old.sent new.sent → Goes old new
goes_drawn old new same grow = record {
  same = ap (λ (node : NodeView). node.run) same;
  started = ap (λ (node : NodeView). node.started) same;
  told = let is = ap (λ (node : NodeView). node.told) same in omega (arith, is);
  steps = [];
  carried = refl;
  fed = ap (λ (node : NodeView). node.fed) same ∙ sym (append-nil old.fed);
  sent = grow;
}

-- some, and then more
pub goes_on : (old mid new : NodeView) → Goes old mid → Goes mid new → Goes old new
goes_on old mid new first next = record {
  same = next.same ∙ first.same;
  started = next.started ∙ first.started;
  told = omega (arith, first.told, next.told);
  steps = first.steps ++ next.steps;
  carried = list_all-append is_carry first.steps next.steps ∙ rw (first.carried, next.carried) refl;
  fed = next.fed ∙ ap (λ (steps : List Step). steps ++ next.steps) first.fed ∙ append_assoc old.fed first.steps next.steps;
  sent = all_more old.sent mid.sent new.sent first.sent next.sent;
}

pub ruleset going = (goes_refl, goes_on, goes_by, goes_drawn, goes_told)
