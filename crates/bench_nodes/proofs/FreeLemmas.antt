-- What crosses next can be taken by the node that it is for.
use Rattle.std.proofs.Common.{◌≡◌, ◌<◌, ◌∷◌, ◌∙◌, ℕ, Bool, true, false, List, [], Option, Some, None, ap, inl, inr, length, refl, subst, sym}
use Rattle.std.specs.Prelude.{cond, drop, is_none, is_some, slice_get, take}
use Rattle.std.specs.List.{range_with_len}
use Rattle.std.specs.Option.{option_and_then, option_map_or, option_or}
use Rattle.bench_item.specs.declared.line_state.LineState.{LineState}
use Rattle.bench_item.specs.declared.line_state.LineState.TheVariants as states
use Rattle.bench_item.specs.declared.step.Step.{Step}
use Rattle.bench_item.specs.declared.step.Step.TheVariants.{Dialled}
use Rattle.bench_item.specs.declared.step.StepFault.{StepFault}
use Rattle.bench_script.specs.Ran.{Does, TakesTold, Tries}
use Rattle.bench_spec.specs.Refusal.{refusal}
use Rattle.bench_spec.specs.Taken.{Run}
use Rattle.script_text.specs.declared.asked.ScriptStep.TheVariants as asked
use Rattle.script_text.specs.declared.run_line.RunLine.TheVariants as runs
use Rattle.bench_nodes.specs.Acts.{ActsAt}
use Rattle.bench_nodes.specs.Crossings.{accepts, carried, carried_some, carries, dialled_by, ends, first_in, if_free, is_caller, is_free, is_over, lines_of, next_crossing, of_line, of_node, of_nodes, of_state, opens, over_link, over_links, over_place, sent_by, stands_at}
use Rattle.bench_nodes.specs.Ends.{count_of, from_end}
use Rattle.bench_nodes.specs.declared.node.Crossing.{Crossing}
use Rattle.bench_nodes.specs.declared.node.End.{End}
use Rattle.bench_nodes.specs.declared.node.Link.{Link}
use Rattle.bench_nodes.specs.declared.node.Node.{Node}
use Rattle.bench_nodes.specs.declared.node.Way.{Way}
use Rattle.bench_nodes.specs.declared.node.Way.TheVariants.{There, Back}
use Rattle.bench_nodes.proofs.ActLemmas.{index_within}

-- what crosses, if anything does, can be taken
abbrev CanCross : List Node → Option Crossing → Type 0
CanCross nodes None = Unit {0}
CanCross nodes (Some crossing) = is_free nodes crossing.node crossing.step ≡ true

can-if_free : (nodes : List Node) (crossing : Crossing) → CanCross nodes (if_free nodes crossing)
can-if_free nodes crossing = by (is_free nodes crossing.node crossing.step) refl
  where
    by : (b : Bool) → is_free nodes crossing.node crossing.step ≡ b → CanCross nodes (cond b (Some crossing) None)
    by true is = is
    by false is = tt

can-or : (nodes : List Node) (one other : Option Crossing) → CanCross nodes one → CanCross nodes other → CanCross nodes (option_or one other)
can-or nodes None other first second = second
can-or nodes (Some crossing) other first second = first

can-when : (nodes : List Node) (b : Bool) (one : Option Crossing) → CanCross nodes one → CanCross nodes (cond b one None)
can-when nodes true one can = can
can-when nodes false one can = tt

can-unless : (nodes : List Node) (b : Bool) (one : Option Crossing) → CanCross nodes one → CanCross nodes (cond b None one)
can-unless nodes true one can = tt
can-unless nodes false one can = can

can-then : {X : Type 0} (nodes : List Node) (f : X → Option Crossing) (o : Option X) → ((x : X) → CanCross nodes (f x)) → CanCross nodes (option_and_then f o)
can-then nodes f None can = tt
can-then nodes f (Some x) can = can x

can-first : {X : Type 0} (nodes : List Node) (f : X → Option Crossing) → ((x : X) → CanCross nodes (f x)) → (xs : List X) → CanCross nodes (first_in f xs)
can-first nodes f can [] = tt
can-first nodes f can (x ∷ xs) = can-or nodes (f x) (first_in f xs) (can x) (can-first nodes f can xs)

can-carried : (nodes : List Node) (link : Link) (place : ℕ) (way : Way) (piece : List ℕ) → CanCross nodes (carried_some nodes link place way piece)
can-carried nodes link place way [] = tt
can-carried nodes link place way (octet ∷ octets) = can-if_free nodes (carried link place way (octet ∷ octets))

can-carries : (cut : ℕ) (nodes : List Node) (link : Link) (place : ℕ) (way : Way) → CanCross nodes (carries cut nodes link place way)
can-carries cut nodes link place way =
    can-carried nodes link place way (take cut (drop (count_of link way) (sent_by nodes (from_end link way))))

can-ends : (nodes : List Node) (link : Link) (way : Way) → CanCross nodes (ends nodes link way)
can-ends nodes link way = can-when nodes (is_over nodes link way) _ (can-if_free nodes _)

can-over : (cut : ℕ) (nodes : List Node) (link : Link) (place : ℕ) → CanCross nodes (over_link cut nodes link place)
can-over cut nodes link place =
    let accepted : Crossing = record { node = link.caller.node; step = Dialled link.caller.line; linked = None } in
    let last : Option Crossing = option_or (ends nodes link There) (ends nodes link Back) in
    let back : Option Crossing = option_or (carries cut nodes link place Back) last in
    let there : Option Crossing = option_or (carries cut nodes link place There) back in
    let can_last : CanCross nodes last = can-or nodes (ends nodes link There) (ends nodes link Back) (can-ends nodes link There) (can-ends nodes link Back) in
    let can_back : CanCross nodes back = can-or nodes (carries cut nodes link place Back) last (can-carries cut nodes link place Back) can_last in
    let can_there : CanCross nodes there = can-or nodes (carries cut nodes link place There) back (can-carries cut nodes link place There) can_back in
    can-or nodes (opens nodes link) there (can-if_free nodes accepted) can_there

can-state : (nodes : List Node) (links : List Link) (caller : End) (state : Option LineState) → CanCross nodes (of_state nodes links caller state)
can-state nodes links caller None = tt
can-state nodes links caller (Some states.Open) = tt
can-state nodes links caller (Some states.Closed) = tt
can-state nodes links caller (Some (states.Dialling peer)) =
    can-unless nodes (is_caller links caller) _
    (can-or nodes _ _ (can-then nodes (accepts nodes links caller) (dialled_by nodes caller.node peer) (λ callee. can-if_free nodes _)) (can-if_free nodes _))

can-place : (cut : ℕ) (nodes : List Node) (links : List Link) (place : ℕ) → CanCross nodes (over_place cut nodes links place)
can-place cut nodes links place =
    can-then nodes (λ (link : Link). over_link cut nodes link place) (slice_get links place) (λ (link : Link). can-over cut nodes link place)

can-line : (nodes : List Node) (links : List Link) (caller : End) → CanCross nodes (of_line nodes links caller)
can-line nodes links caller = can-state nodes links caller (stands_at nodes caller)

can-node : (nodes : List Node) (links : List Link) (at : ℕ) → CanCross nodes (of_node nodes links at)
can-node nodes links at =
    can-first nodes (λ (line : ℕ). of_line nodes links (record { node = at; line = line })) (λ (line : ℕ). can-line nodes links (record { node = at; line = line })) (range_with_len 1 (lines_of nodes at))

can-links : (cut : ℕ) (nodes : List Node) (links : List Link) → CanCross nodes (over_links cut nodes links)
unfolding over_links
can-links cut nodes links = can-first nodes (over_place cut nodes links) (can-place cut nodes links) (range_with_len 0 (length links))

can-nodes : (nodes : List Node) (links : List Link) → CanCross nodes (of_nodes nodes links)
unfolding of_nodes
can-nodes nodes links = can-first nodes (of_node nodes links) (can-node nodes links) (range_with_len 0 (length nodes))

can-next : (cut : ℕ) (nodes : List Node) (links : List Link) → CanCross nodes (next_crossing cut nodes links)
unfolding next_crossing
can-next cut nodes links =
    can-or nodes (over_links cut nodes links) (of_nodes nodes links) (can-links cut nodes links) (can-nodes nodes links)

pub next_free : (cut : ℕ) (nodes : List Node) (links : List Link) (crossing : Crossing) → next_crossing cut nodes links ≡ Some crossing
    → is_free nodes crossing.node crossing.step ≡ true
next_free cut nodes links crossing is = subst (CanCross nodes) is (can-next cut nodes links)

-- a node that can take a step is there
found : {X : Type 0} (f : X → Bool) (o : Option X) → option_map_or f o false ≡ true → is_some o ≡ true
found f None is = is
found f (Some x) is = refl

pub free_within : (nodes : List Node) (at : ℕ) (step : Step) → is_free nodes at step ≡ true → at < length nodes
unfolding is_free
free_within nodes at step free = index_within nodes at (found _ (slice_get nodes at) free)

-- and has no reason to refuse it
nothing_in : {X : Type 0} (o : Option X) → is_none o ≡ true → o ≡ None
nothing_in None is = refl
nothing_in (Some x) is = absurd cc

free_at : (nodes : List Node) (at : ℕ) (step : Step) (node : Node) → is_free nodes at step ≡ true → slice_get nodes at ≡ Some node
    → refusal node.core.settings node.core.log node.core.paused step ≡ None
unfolding is_free
free_at nodes at step node free is =
    nothing_in _ (sym (ap (λ (o : Option Node). option_map_or (λ (n : Node). is_none (refusal n.core.settings n.core.log n.core.paused step)) o false) is) ∙ free)

-- so it takes it
taken_of : (old new : Run) (step : Step) (text : List ℕ) → refusal old.settings old.log old.paused step ≡ None → Tries old step new text → TakesTold old step new text
taken_of old new step text free (inl taken) = taken
taken_of old new step text free (inr refused) = absurd (some_none _ _ free refused.refused)
  where
    some_none : (o : Option StepFault) (fault : StepFault) → o ≡ None → o ≡ Some fault → ⊥
    some_none o fault none some = cc

pub took : (at : ℕ) (old : List Node) (out : List ℕ) (new : List Node) (out' : List ℕ) (step : Step) → is_free old at step ≡ true
    → ActsAt (λ run run' text. Does run (runs.Asked (asked.Step step)) run' text) at old out new out'
    → ActsAt (λ run run' text. TakesTold run step run' text) at old out new out'
took at old out new out' step free act = record {
  before = act.before;
  behind = act.behind;
  was = act.was;
  acts = record {
    core = act.acts.core;
    text = act.acts.text;
    does = taken_of act.before.core act.acts.core step act.acts.text (free_at old at step act.before free act.was) act.acts.does;
    is = act.acts.is;
    told = act.acts.told;
  };
  is = act.is;
}
