-- What sockets make of the bench behind them, one after the other.
use Rattle.std.proofs.Common.{◌≡◌, ◌∷◌, ℕ, List, [], Option, ap, inl, inr, subst, sym}
use Rattle.bench_net.specs.Events.{AllSettled, Event, Settles}
use Rattle.bench_net.specs.Pipes.{HandsOn}
use Rattle.bench_net.specs.declared.refusal.Refusal.{Refusal}
use Rattle.net_sockets.specs.Turns.{Turned, moved, still, took}
use Rattle.net_sockets.specs.declared.node.OnLine.{OnLine}

-- once, and then once more
pub turned_on : {N : Type 0} (takes : N → ℕ → Event → N → Type 0) (moves : N → N → Type 0) (old mid new : N)
    → Turned takes moves old mid → Turned takes moves mid new → Turned takes moves old new
turned_on takes moves old mid new first still = first
turned_on takes moves old mid new first (took mid' new' line event next takes') =
    took mid' new line event (turned_on takes moves old mid mid' first next) takes'
turned_on takes moves old mid new first (moved mid' new' next moves') =
    moved mid' new (turned_on takes moves old mid mid' first next) moves'

-- it moves
pub turned_by : {N : Type 0} (takes : N → ℕ → Event → N → Type 0) (moves : N → N → Type 0) (old new : N)
    → moves old new → Turned takes moves old new
turned_by takes moves old new is = moved old new still is

-- it is as it was
pub turned_same : {N : Type 0} (takes : N → ℕ → Event → N → Type 0) (moves : N → N → Type 0) (old new : N)
    → new ≡ old → Turned takes moves old new
turned_same takes moves old new same = subst (Turned takes moves old) (sym same) still

-- what the port of a line takes
abbrev TakesOn : {N : Type 0} → (N → ℕ → Event → N → Type 0) → OnLine N → Event → OnLine N → Type 0
TakesOn takes s event t = (t.line ≡ s.line) × takes s.node s.line event t.node

-- one thing was settled there
turned_one : {N : Type 0} (takes : N → ℕ → Event → N → Type 0) (moves : N → N → Type 0)
    (refuses : OnLine N → Event → Refusal → Type 0) (old new : OnLine N) (event : Event)
    → Settles (TakesOn takes) refuses old event new → Turned takes moves old.node new.node
turned_one takes moves refuses old new event (inl takes') = took old.node new.node old.line event still takes'.1
turned_one takes moves refuses old new event (inr declines) =
    turned_same takes moves old.node new.node (ap (λ (s : OnLine _). s.node) declines.0)

-- and all that was
turned_all : {N : Type 0} (takes : N → ℕ → Event → N → Type 0) (moves : N → N → Type 0)
    (refuses : OnLine N → Event → Refusal → Type 0) (old new : OnLine N) (events : List Event)
    → AllSettled (TakesOn takes) refuses old events new → Turned takes moves old.node new.node
turned_all takes moves refuses old new [] same = turned_same takes moves old.node new.node (ap (λ (s : OnLine _). s.node) same)
turned_all takes moves refuses old new (event ∷ events) all =
    turned_on takes moves old.node all.0.node new.node (turned_one takes moves refuses old all.0 event all.1)
    (turned_all takes moves refuses all.0 new events all.2)

-- what waited and what happened was handed on
pub turned_handed : {N : Type 0} (takes : N → ℕ → Event → N → Type 0) (moves : N → N → Type 0)
    (refuses : OnLine N → Event → Refusal → Type 0) (sent : OnLine N → Option (List ℕ)) (old new : OnLine N)
    (before after happened : List Event)
    → HandsOn (TakesOn takes) refuses sent old new before after happened → Turned takes moves old.node new.node
turned_handed takes moves refuses sent old new before after happened hands =
    turned_all takes moves refuses old new hands.settled hands.each

pub ruleset turning = (turned_on, turned_by, turned_same)
