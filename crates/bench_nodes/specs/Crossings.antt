-- What crosses between nodes: what may come next to which of them, and why.
use Rattle.std.specs.Prelude.{ℕ, ◌+◌, ◌==◌, ◌&&◌, Bool, true, false, List, [], ◌∷◌, ◌++◌, drop, is_none, length}
use Rattle.std.specs.Prelude.{nat_le, position, take}
use Rattle.std.specs.Prelude.{Option, Some, None, slice_get, slice_set, if◌then◌else◌}
use Rattle.std.specs.List.{list_any, range_with_len}
use Rattle.std.specs.Option.{option_and_then, option_map_or, option_or}
use Rattle.bench_item.specs.Peers.{is_same_host}
use Rattle.bench_item.specs.declared.line_state.LineState.{LineState}
use Rattle.bench_item.specs.declared.line_state.LineState.TheVariants as states
use Rattle.bench_item.specs.declared.step.Step.{Step}
use Rattle.bench_item.specs.declared.step.Step.TheVariants.{Joined, Dialled, Came, Lost}
use Rattle.bench_script.specs.Printed.{machine_at}
use Rattle.bench_spec.specs.Lines.{openings}
use Rattle.bench_spec.specs.Refusal.{refusal}
use Rattle.bench_spec.specs.Taken as taken
use Rattle.bench_nodes.specs.Ends.{count_of, from_end, to_end, with_count}
use Rattle.bench_nodes.specs.declared.node.Crossing.{Crossing}
use Rattle.bench_nodes.specs.declared.node.End.{End}
use Rattle.bench_nodes.specs.declared.node.Link.{Link}
use Rattle.bench_nodes.specs.declared.node.Linked.{Linked}
use Rattle.bench_nodes.specs.declared.node.Node.{Node}
use Rattle.bench_nodes.specs.declared.node.Way.{Way}
use Rattle.bench_nodes.specs.declared.node.Way.TheVariants.{There, Back}

-- the first of a list for which there is an answer
abbrev pub first_in : {A B : Type 0} → (A → Option B) → List A → Option B
first_in f [] = None
first_in f (x ∷ xs) = option_or (f x) (first_in f xs)

-- whether a node can take a step
unfoldable pub is_free : List Node → ℕ → Step → Bool
is_free nodes at step =
    option_map_or (λ node. is_none (refusal node.core.settings node.core.log node.core.paused step))
    (slice_get nodes at) false

-- what crosses, where it can be taken
abbrev pub if_free : List Node → Crossing → Option Crossing
if_free nodes crossing = if is_free nodes crossing.node crossing.step then Some crossing else None

-- what a line of a node has sent
unfoldable pub sent_by : List Node → End → List ℕ
sent_by nodes end = option_map_or (λ node. (taken.shown node.core).sent_of end.line) (slice_get nodes end.node) []

-- where a line of a node stands, if there is one
unfoldable pub stands_at : List Node → End → Option LineState
stands_at nodes end = option_and_then (λ node. (taken.shown node.core).line_of end.line) (slice_get nodes end.node)

-- who dialled a connection that was accepted is told so
abbrev pub opens : List Node → Link → Option Crossing
opens nodes link =
    if_free nodes (record { node = link.caller.node; step = Dialled link.caller.line; linked = None })

-- octets come: of those that the other end sent, the ones behind what came before, so many at most
abbrev pub carried : Link → ℕ → Way → List ℕ → Crossing
carried link place way piece = record {
  node = (to_end link way).node;
  step = Came (to_end link way).line piece;
  linked = Some (record { place = place; link = with_count link way (count_of link way + length piece) });
}

abbrev pub carried_some : List Node → Link → ℕ → Way → List ℕ → Option Crossing
carried_some nodes link place way [] = None
carried_some nodes link place way (octet ∷ octets) = if_free nodes (carried link place way (octet ∷ octets))

abbrev pub carries : ℕ → List Node → Link → ℕ → Way → Option Crossing
carries cut nodes link place way =
    carried_some nodes link place way (take cut (drop (count_of link way) (sent_by nodes (from_end link way))))

-- whether an end is closed, and all that it sent has come
abbrev pub is_closed : Option LineState → Bool
is_closed (Some states.Closed) = true
is_closed state = false

abbrev pub is_over : List Node → Link → Way → Bool
is_over nodes link way =
    is_closed (stands_at nodes (from_end link way))
    && nat_le (length (sent_by nodes (from_end link way))) (count_of link way)

-- the other end of it is lost
abbrev pub ends : List Node → Link → Way → Option Crossing
ends nodes link way =
    if is_over nodes link way
    then if_free nodes (record { node = (to_end link way).node; step = Lost (to_end link way).line; linked = None })
    else None

-- what comes over a connection: that it was accepted, octets, its end
abbrev pub over_link : ℕ → List Node → Link → ℕ → Option Crossing
over_link cut nodes link place =
    option_or (opens nodes link)
    (option_or (carries cut nodes link place There)
    (option_or (carries cut nodes link place Back)
    (option_or (ends nodes link There) (ends nodes link Back))))

abbrev pub over_place : ℕ → List Node → List Link → ℕ → Option Crossing
over_place cut nodes links place = option_and_then (λ link. over_link cut nodes link place) (slice_get links place)

-- whether a line has dialled a connection between nodes
abbrev pub is_caller : List Link → End → Bool
is_caller links end = list_any (λ link. (link.caller.node == end.node) && (link.caller.line == end.line)) links

-- the first node of a host that accepts connections
abbrev pub listener_of : List Node → List ℕ → Option ℕ
listener_of nodes host = position (λ node. node.listens && is_same_host node.host host) nodes

-- the node that the machine of a peer dials
unfoldable pub dialled_by : List Node → ℕ → ℕ → Option ℕ
dialled_by nodes at peer =
    option_and_then (λ key. listener_of nodes key.name)
    (option_and_then (λ node. machine_at node.core peer) (slice_get nodes at))

-- how many lines a node has
unfoldable pub lines_of : List Node → ℕ → ℕ
lines_of nodes at = option_map_or (λ node. length (openings node.core.log)) (slice_get nodes at) 0

-- a dial is accepted: the node that is dialled gets one more line, on which nothing has come yet
abbrev pub accepts : List Node → List Link → End → ℕ → Option Crossing
accepts nodes links caller callee =
    if_free nodes (record {
      node = callee;
      step = Joined;
      linked = Some (record {
        place = length links;
        link = record {
          caller = caller;
          callee = record { node = callee; line = lines_of nodes callee + 1 };
          there = 0;
          back = 0;
        };
      });
    })

-- a dial is lost: no node of that host accepts connections, or it can't now
abbrev pub fails : List Node → End → Option Crossing
fails nodes caller = if_free nodes (record { node = caller.node; step = Lost caller.line; linked = None })

-- what comes of a line that is being dialled
abbrev pub of_dial : List Node → List Link → End → ℕ → Option Crossing
of_dial nodes links caller peer =
    option_or (option_and_then (accepts nodes links caller) (dialled_by nodes caller.node peer)) (fails nodes caller)

abbrev pub of_state : List Node → List Link → End → Option LineState → Option Crossing
of_state nodes links caller (Some (states.Dialling peer)) =
    if is_caller links caller then None else of_dial nodes links caller peer
of_state nodes links caller state = None

abbrev pub of_line : List Node → List Link → End → Option Crossing
of_line nodes links caller = of_state nodes links caller (stands_at nodes caller)

-- of the lines of a node
abbrev pub of_node : List Node → List Link → ℕ → Option Crossing
of_node nodes links at =
    first_in (λ line. of_line nodes links (record { node = at; line = line })) (range_with_len 1 (lines_of nodes at))

-- over connections, in the order in which they were accepted
unfoldable pub over_links : ℕ → List Node → List Link → Option Crossing
over_links cut nodes links = first_in (over_place cut nodes links) (range_with_len 0 (length links))

-- of the lines of all nodes
unfoldable pub of_nodes : List Node → List Link → Option Crossing
of_nodes nodes links = first_in (of_node nodes links) (range_with_len 0 (length nodes))

-- the next that crosses, where octets come in pieces of so many: over connections first, and then what is dialled
unfoldable pub next_crossing : ℕ → List Node → List Link → Option Crossing
next_crossing cut nodes links = option_or (over_links cut nodes links) (of_nodes nodes links)

-- the connections when something crossed: one more, or one that has changed
abbrev pub links_with : List Link → Linked → List Link
links_with links linked =
    if linked.place == length links then links ++ linked.link ∷ [] else slice_set links linked.place linked.link

abbrev pub links_after : List Link → Option Linked → List Link
links_after links None = links
links_after links (Some linked) = links_with links linked
