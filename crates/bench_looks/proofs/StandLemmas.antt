-- Where a machine stands.
use Rattle.std.proofs.Common.{◌≡◌, ◌∙◌, ◌+◌, ℕ, List, [], ◌∷◌, Bool, true, false, length, refl, ap, sym, subst}
use Rattle.std.specs.Prelude.{cond, nat_lt, position, unwrap_or, Option, Some, None}
use Rattle.std.specs.Bool.{Decides}
use Rattle.std.specs.List.{list_any, position_or_len}
use Rattle.std.specs.Option.{option_map}
use Rattle.std.proofs.lemmas.Option.{none-some, same_Some}
use Rattle.tab_step.specs.declared.machine.MachineState.{MachineState}
use Rattle.bench_item.specs.Keys.{Node, home, number_at}
use Rattle.bench_item.specs.declared.entry.Entry.{Entry}
use Rattle.bench_item.specs.declared.entry.Moved.{Moved}
use Rattle.bench_item.specs.declared.key.Key.{Key}
use Rattle.bench_shard.proofs.AbsentLemmas.{absent-moves}
use Rattle.bench_spec.specs.Machines.{directory, moves_of, number_for, number_of, start, state_after, state_at}
use Rattle.bench_spec.specs.Machines.{state_of}
use Rattle.bench_spec.specs.Merged.{not_there}
use Rattle.bench_looks.specs.Brought.{AreBrought}
use Rattle.bench_looks.specs.Tallies.{is_key, left_after, taken_keys}
use Rattle.bench_looks.proofs.PlaceLemmas.{brought-some, place-none, position-found, position-later}

-- what the look would have to show
abbrev pub standing : Node → List Entry → Key → MachineState
standing node log key = unwrap_or (state_of node log key) not_there

-- the last move
left-some : (s : MachineState) (ms : List Moved) → left_after (Some s) ms ≡ Some (state_after s ms)
left-some s [] = refl
left-some s (m ∷ ms) = left-some m.after ms

left-state : (x s : MachineState) (ms : List Moved) → left_after None ms ≡ Some s → state_after x ms ≡ s
left-state x s [] is = absurd (none-some s is)
left-state x s (m ∷ ms) is = same_Some (state_after m.after ms) s (sym (left-some m.after ms) ∙ is)

pub left-none : (ms : List Moved) → left_after None ms ≡ None → ms ≡ []
left-none [] is = refl
left-none (m ∷ ms) is = absurd (none-some (state_after m.after ms) (sym is ∙ left-some m.after ms))

-- numbers are those of places
place-of_none : (f : ℕ → ℕ) (o : Option ℕ) → option_map f o ≡ None → o ≡ None
place-of_none f None is = refl
place-of_none f (Some n) is = absurd (none-some (f n) (sym is))

pub number-none : (node : Node) (log : List Entry) (key : Key) → number_of node log key ≡ None
    → position (is_key key) (directory node (home node.shards key.name) log) ≡ None
number-none node log key is =
    place-of_none (number_at (home node.shards key.name))
    (position (is_key key) (directory node (home node.shards key.name) log)) is

number-by : (f : ℕ → ℕ) (i n : ℕ) (b : Bool) → option_map f (cond b (Some i) None) ≡ Some n → f i ≡ n
number-by f i n true is = same_Some (f i) n is
number-by f i n false is = absurd (none-some n is)

number-is : (node : Node) (log : List Entry) (key : Key) (n : ℕ) → number_of node log key ≡ Some n
    → number_for node log key ≡ n
number-is node log key n is =
    let shard = home node.shards key.name in
    number-by (number_at shard) (position_or_len (is_key key) (directory node shard log)) n
    (nat_lt (position_or_len (is_key key) (directory node shard log)) (length (directory node shard log))) is

-- a machine that moved stands where the last move left it
moved-by : (node : Node) (log : List Entry) (key : Key) (s : MachineState) (o : Option ℕ)
    → number_of node log key ≡ o → left_after None (moves_of log key) ≡ Some s → standing node log key ≡ s
moved-by node log key s None none is =
    let still : moves_of log key ≡ [] =
    absent-moves node (home node.shards key.name) key log refl (number-none node log key none) in
    absurd (none-some s (ap (left_after None) (sym still) ∙ is))
moved-by node log key s (Some n) some is =
    ap (λ o. unwrap_or (option_map (λ m. state_at node log key) o) not_there) some
    ∙ left-state (start (number_for node log key)) s (moves_of log key) is

pub moved-stands : (node : Node) (log : List Entry) (key : Key) (s : MachineState)
    → left_after None (moves_of log key) ≡ Some s → standing node log key ≡ s
moved-stands node log key s is = moved-by node log key s (number_of node log key) refl is

-- one that is not there
pub none-stands : (node : Node) (log : List Entry) (key : Key) → number_of node log key ≡ None
    → standing node log key ≡ not_there
none-stands node log key none = ap (λ o. unwrap_or (option_map (λ m. state_at node log key) o) not_there) none

-- one that is there and has not moved
pub start-stands : (node : Node) (log : List Entry) (key : Key) (n : ℕ) → number_of node log key ≡ Some n
    → moves_of log key ≡ [] → standing node log key ≡ start n
start-stands node log key n some still =
    ap (λ o. unwrap_or (option_map (λ m. state_at node log key) o) not_there) some
    ∙ ap (state_after (start (number_for node log key))) still ∙ ap start (number-is node log key n some)

-- that of a peer keeps its number
peer-by : (node : Node) (log : List Entry) (key : Key) (n : ℕ) (o : Option ℕ)
    → position (is_key key) (directory node (home node.shards key.name) []) ≡ o
    → option_map (number_at (home node.shards key.name)) o ≡ Some n → number_of node log key ≡ Some n
peer-by node log key n None none is = absurd (none-some n is)
peer-by node log key n (Some i) some is =
    let shard = home node.shards key.name in
    let more = brought-some node shard log in
    ap (λ ds. option_map (number_at shard) (position (is_key key) ds)) more.1
    ∙ ap (option_map (number_at shard)) (position-found (is_key key) i (directory node shard []) more.0 some) ∙ is

pub peer-number : (node : Node) (log : List Entry) (key : Key) (n : ℕ) → number_of node [] key ≡ Some n
    → number_of node log key ≡ Some n
peer-number node log key n is =
    peer-by node log key n (position (is_key key) (directory node (home node.shards key.name) [])) refl is

-- none of a peer of which no item was handled
pub untaken-number : (node : Node) (log : List Entry) (key : Key) → number_of node [] key ≡ None
    → list_any (is_key key) (taken_keys log) ≡ false → number_of node log key ≡ None
untaken-number node log key none fails =
    ap (option_map (number_at (home node.shards key.name)))
    (place-none node (home node.shards key.name) key log (number-none node [] key none) fails)

-- none of a peer, by its place among those that were brought
brought-number : (node : Node) (log : List Entry) (key : Key) (keys : List Key) (o : Option ℕ)
    → number_of node [] key ≡ None → AreBrought node (home node.shards key.name) log keys
    → o ≡ position (is_key key) keys
    → number_of node log key
    ≡ option_map (λ n. number_at (home node.shards key.name)
    (length (directory node (home node.shards key.name) []) + n)) o
brought-number node log key keys o none are is =
    let shard = home node.shards key.name in
    let first = directory node shard [] in
    ap (λ ds. option_map (number_at shard) (position (is_key key) ds)) are
    ∙ ap (option_map (number_at shard)) (position-later (is_key key) first keys (number-none node [] key none))
    ∙ ap (λ p. option_map (number_at shard) (option_map (λ n. length first + n) p)) (sym is)
    ∙ twice (number_at shard) (λ n. length first + n) o
  where
    twice : (f g : ℕ → ℕ) (p : Option ℕ) → option_map f (option_map g p) ≡ option_map (λ n. f (g n)) p
    twice f g None = refl
    twice f g (Some n) = refl

-- what was found of one that is none of a peer and has not moved
pub record Brought (node : Node) (log : List Entry) (key : Key) (keys : List Key) (shard machines : ℕ)
    (place : Option ℕ) : Type 0 where
  pub shard_is : shard ≡ home node.shards key.name
  pub machines_are : machines ≡ length (directory node shard [])
  pub no_peer : number_of node [] key ≡ None
  pub still : moves_of log key ≡ []
  pub are : AreBrought node shard log keys
  pub place_is : place ≡ position (is_key key) keys

pub brought-nowhere : (node : Node) (log : List Entry) (key : Key) (keys : List Key) (shard machines : ℕ)
    → Brought node log key keys shard machines None → standing node log key ≡ not_there
brought-nowhere node log key keys shard machines b =
    none-stands node log key
    (brought-number node log key keys None b.no_peer
    (subst (λ s. AreBrought node s log keys) b.shard_is b.are) b.place_is)

pub brought-start : (node : Node) (log : List Entry) (key : Key) (keys : List Key) (shard machines place : ℕ)
    → Brought node log key keys shard machines (Some place)
    → standing node log key ≡ start (number_at shard (machines + place))
brought-start node log key keys shard machines place b =
    start-stands node log key (number_at shard (machines + place))
    (brought-number node log key keys (Some place) b.no_peer
    (subst (λ s. AreBrought node s log keys) b.shard_is b.are) b.place_is
    ∙ ap (λ s. Some (number_at s (length (directory node s []) + place))) (sym b.shard_is)
    ∙ ap (λ n. Some (number_at shard (n + place))) (sym b.machines_are))
    b.still

-- what is the same of two that are the same
pub decides-same : (b : Bool) (one other this that : MachineState) → one ≡ this → other ≡ that
    → Decides b (one ≡ other) → Decides b (this ≡ that)
decides-same b one other this that e f d = (λ h. sym e ∙ d.0 h ∙ f, λ h. d.1 (e ∙ h ∙ sym f))
