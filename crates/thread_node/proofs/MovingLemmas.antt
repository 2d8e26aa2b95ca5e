-- Steps are fed, one after the other.
use Rattle.std.proofs.Common.{◌≡◌, ◌∙◌, ◌++◌, ◌∷◌, ℕ, List, [], Result, Ok, Err, OnErr, OnOk, ap, append-nil, refl, sym}
use Rattle.std.proofs.lemmas.List.{append_assoc}
use Rattle.std.proofs.lemmas.List.Folds.{list_all-append}
use Rattle.bench_item.specs.declared.step.Step.{Step}
use Rattle.bench_item.specs.declared.step.Step.TheVariants as steps
use Rattle.bench_net.specs.Events.{Lost}
use Rattle.net_sockets.specs.Turns.{Turned, moved, still, took}
use Rattle.node_port.specs.Happened.{step_on}
use Rattle.thread_node.specs.Nodes.{Feeds, Loses, Moves, NodeView, TakesOn, is_loss}

-- with other steps
abbrev with_fed : NodeView → List Step → NodeView
with_fed node steps = record node { fed = steps }

-- none
pub moves_same : (old new : NodeView) → new ≡ old → Moves old new
moves_same old new same = record { steps = []; fed = same ∙ ap (with_fed old) (sym (append-nil old.fed)) }

-- one
pub moves_one : (old new : NodeView) (step : Step) → Feeds old step new → Moves old new
moves_one old new step fed = record { steps = step ∷ []; fed = fed.1 }

-- or none, where it was refused
pub moves_by : {T E : Type 0} (r : Result T E) (old new : NodeView) (step : Step) → OnOk r (Feeds old step new)
    → OnErr r (new ≡ old) → Moves old new
moves_by (Ok done) old new step ok err = moves_one old new step ok
moves_by (Err fault) old new step ok err = moves_same old new err

-- some, and then more
pub moves_on : (old mid new : NodeView) → Moves old mid → Moves mid new → Moves old new
moves_on old mid new first next = record {
  steps = first.steps ++ next.steps;
  fed =
      next.fed ∙ ap (λ (node : NodeView). with_fed node (node.fed ++ next.steps)) first.fed
      ∙ ap (with_fed old) (append_assoc old.fed first.steps next.steps);
}

-- connections that are lost: none, one or none, some and then more
pub loses_same : (old new : NodeView) → new ≡ old → Loses old new
loses_same old new same = record { steps = []; lost = refl; fed = same ∙ ap (with_fed old) (sym (append-nil old.fed)) }

pub loses_by : {T E : Type 0} (r : Result T E) (old new : NodeView) (line : ℕ) → OnOk r (TakesOn old line Lost new)
    → OnErr r (new ≡ old) → Loses old new
loses_by (Ok done) old new line ok err = record { steps = steps.Lost line ∷ []; lost = refl; fed = ok.1.1 }
loses_by (Err fault) old new line ok err = loses_same old new err

pub loses_on : (old mid new : NodeView) → Loses old mid → Loses mid new → Loses old new
loses_on old mid new first next = record {
  steps = first.steps ++ next.steps;
  lost = list_all-append is_loss first.steps next.steps ∙ rw (first.lost, next.lost) refl;
  fed =
      next.fed ∙ ap (λ (node : NodeView). with_fed node (node.fed ++ next.steps)) first.fed
      ∙ ap (with_fed old) (append_assoc old.fed first.steps next.steps);
}

-- these are steps that are fed
pub moves_lost : (old new : NodeView) → Loses old new → Moves old new
moves_lost old new lost = record { steps = lost.steps; fed = lost.fed }

-- what sockets make of it
pub turned_moves : (old new : NodeView) → Turned TakesOn Moves old new → Moves old new
turned_moves old new still = moves_same old old refl
turned_moves old new (took mid new' line event before takes) =
    moves_on old mid new (turned_moves old mid before) (moves_one mid new (step_on line event) takes.1)
turned_moves old new (moved mid new' before moves) = moves_on old mid new (turned_moves old mid before) moves

pub ruleset moving = (moves_same, moves_one, moves_by, moves_on, loses_same, loses_by, loses_on, moves_lost)
