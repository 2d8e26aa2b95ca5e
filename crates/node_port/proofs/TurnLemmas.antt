-- What sockets make of a live node.
use Rattle.std.proofs.Common.{◌≡◌, ℕ, Option, None, Some, length, refl}
use Rattle.std.specs.Prelude.{IfSome}
use Rattle.bench_item.specs.declared.step.Step.TheVariants.{Joined}
use Rattle.bench_net.specs.Events.{Event}
use Rattle.bench_node.specs.Going.{Goes}
use Rattle.bench_node.proofs.GoingLemmas.{goes_none, goes_on, goes_one}
use Rattle.bench_spec.specs.Lines.{openings}
use Rattle.bench_spec.specs.Taken.{Run, Takes}
use Rattle.net_sockets.specs.Turns.{Turned, moved, still, took}
use Rattle.node_port.specs.Happened.{TakesOn, step_on}
use Rattle.node_port.specs.declared.port.NodePort.{NodePort}

-- what a node takes, and how it moves
abbrev pub PortTakes : NodePort → ℕ → Event → NodePort → Type 0
PortTakes s line event t = TakesOn s.node line event t.node

abbrev pub PortMoves : NodePort → NodePort → Type 0
PortMoves s t = Goes s.node t.node

-- a connection is accepted, or not
pub goes_joined : (r : Option ℕ) (old new : Run) → IfSome r (λ line. Takes old new Joined × (line ≡ length (openings new.log)))
    → (r ≡ None → new ≡ old) → Goes old new
goes_joined None old new taken none = goes_none old new (none refl)
goes_joined (Some line) old new taken none = goes_one old new Joined taken.0

-- steps of its bench, and nothing else
pub turned_goes : (old new : NodePort) → Turned PortTakes PortMoves old new → Goes old.node new.node
turned_goes old new still = goes_none old.node old.node refl
turned_goes old new (took mid new' line event before takes) =
    goes_on old.node mid.node new.node (turned_goes old mid before) (goes_one mid.node new.node (step_on line event) takes)
turned_goes old new (moved mid new' before moves) = goes_on old.node mid.node new.node (turned_goes old mid before) moves
