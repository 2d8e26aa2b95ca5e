-- What a shard shows, where it is what a log says.
use Rattle.std.proofs.Common.{◌≡◌, ℕ, zero, suc, ◌≤◌, ◌<◌, Bool, true, false, cond, ◌&&◌, List, [], ◌∷◌, ◌++◌, length, map, filter, flat_map, get_or, Option, Some, None, refl, sym, ap, subst, ◌∙◌, arith, unwrap_or}
use Rattle.std.specs.Prelude.{position, slice_get, is_none, nat_le, option_map, option_to_list, if◌then◌else◌}
use Rattle.std.proofs.lemmas.Bool.{eqb-true}
use Rattle.std.proofs.lemmas.List.{length-map}
use Rattle.std.proofs.lemmas.List.Quantifiers.{position-Some}
use Rattle.std.proofs.lemmas.Option.{slice_get-get_or}
use Rattle.std.proofs.Math.ListN.{get_or-map}
use Rattle.sess_dir.specs.Names.{place_of}
use Rattle.tab_step.specs.declared.machine.MachineState.{MachineState}
use Rattle.bench_item.specs.declared.entry.Entry.{Entry}
use Rattle.bench_item.specs.declared.item.MachineItem.{MachineItem}
use Rattle.bench_item.specs.declared.key.Key.{Key}
use Rattle.bench_item.specs.declared.limit.TheConstants.{MAX_MACHINES}
use Rattle.bench_item.specs.Keys.{home, is_same_key, number_at, Node}
use Rattle.bench_queue.specs.Inbox.{InboxView, next_in}
use Rattle.bench_spec.specs.Items.{arrived, is_drop}
use Rattle.bench_spec.specs.Legal.{finds_no_room}
use Rattle.bench_spec.specs.Machines as logged
use Rattle.bench_spec.specs.Settings.{Settings}
use Rattle.bench_shard.proofs.AbsentLemmas.{absent-moves, first-or_len}
use Rattle.bench_shard.proofs.KeyLemmas.{place-octets, same-key}
use Rattle.bench_shard.specs.Names.{key_octets}
use Rattle.bench_shard.specs.Stands.{HasMachines, Stands}
use Rattle.bench_shard.specs.View.{ShardView, lacks_room, number_for, place_for, place_in, state_for}

-- the machines of a shard that is what a log says
pub machines-of : (settings : Settings) (log : List Entry) (v : ShardView) → Stands settings log v → HasMachines settings.node log v
machines-of settings log v S = record { names = S.names; states = S.states }

-- the place of a machine of the shard
found : (node : Node) (log : List Entry) (v : ShardView) (key : Key) → HasMachines node log v → place_in v key ≡ position (λ k. is_same_key k key) (logged.directory node v.number log)
found node log v key M =
    ap (λ (names : List (List ℕ)). place_of names (key_octets key)) M.names ∙ place-octets (logged.directory node v.number log) key

place-of : (node : Node) (log : List Entry) (v : ShardView) (key : Key) → HasMachines node log v → home node.shards key.name ≡ v.number → place_in v key ≡ logged.place_in node log key
place-of node log v key M here =
    found node log v key M ∙ ap (λ (n : ℕ). position (λ (k : Key). is_same_key k key) (logged.directory node n log)) (sym here)

pub place-in : (settings : Settings) (log : List Entry) (v : ShardView) (key : Key) → Stands settings log v → home settings.node.shards key.name ≡ v.number → place_in v key ≡ logged.place_in settings.node log key
place-in settings log v key S here = place-of settings.node log v key (machines-of settings log v S) here

-- how many machines there are
count-of : (node : Node) (log : List Entry) (v : ShardView) → HasMachines node log v → length v.names ≡ length (logged.directory node v.number log)
count-of node log v M = ap length M.names ∙ length-map (logged.directory node v.number log) key_octets

pub count : (settings : Settings) (log : List Entry) (v : ShardView) → Stands settings log v → length v.names ≡ length (logged.directory settings.node v.number log)
count settings log v S = count-of settings.node log v (machines-of settings log v S)

count-home : (node : Node) (log : List Entry) (v : ShardView) (key : Key) → HasMachines node log v → home node.shards key.name ≡ v.number
    → length v.names ≡ length (logged.directory node (home node.shards key.name) log)
count-home node log v key M here = count-of node log v M ∙ ap (λ (n : ℕ). length (logged.directory node n log)) (sym here)

is_none-map : {X Y : Type 0} (f : X → Y) (o : Option X) → is_none (option_map f o) ≡ is_none o
is_none-map f None = refl
is_none-map f (Some x) = refl

-- whether there is no room for it
pub no-room : (settings : Settings) (log : List Entry) (v : ShardView) (key : Key) → Stands settings log v → home settings.node.shards key.name ≡ v.number → finds_no_room settings log key ≡ lacks_room v key
no-room settings log v key S here =
    let all : ℕ = length (logged.directory settings.node (home settings.node.shards key.name) log) in
    ap (λ (b : Bool). b && nat_le MAX_MACHINES all) (is_none-map (number_at (home settings.node.shards key.name)) (logged.place_in settings.node log key))
    ∙ ap (λ (o : Option ℕ). is_none o && nat_le MAX_MACHINES all) (sym (place-in settings log v key S here))
    ∙ ap (λ (n : ℕ). is_none (place_in v key) && nat_le MAX_MACHINES n) (sym (count-home settings.node log v key (machines-of settings log v S) here))

-- its number
number-of : (node : Node) (log : List Entry) (v : ShardView) (key : Key) → HasMachines node log v → home node.shards key.name ≡ v.number → logged.number_for node log key ≡ number_for v key
number-of node log v key M here =
    let shard : ℕ = home node.shards key.name in
    let all : List Key = logged.directory node shard log in
    ap (number_at shard) (sym (first-or_len (λ (k : Key). is_same_key k key) all))
    ∙ ap (λ (o : Option ℕ). number_at shard (unwrap_or o (length all))) (sym (place-of node log v key M here))
    ∙ ap (λ (n : ℕ). number_at shard (unwrap_or (place_in v key) n)) (sym (count-home node log v key M here))
    ∙ ap (λ (n : ℕ). number_at n (place_for v key)) here

pub number-for : (settings : Settings) (log : List Entry) (v : ShardView) (key : Key) → Stands settings log v → home settings.node.shards key.name ≡ v.number → logged.number_for settings.node log key ≡ number_for v key
number-for settings log v key S here = number-of settings.node log v key (machines-of settings log v S) here

slice_get-past : {X : Type 0} (xs : List X) (k : ℕ) → length xs ≤ k → slice_get xs k ≡ None
slice_get-past [] k past = refl
slice_get-past (x ∷ xs) zero past = absurd (omega (arith, past))
slice_get-past (x ∷ xs) (suc k) past = slice_get-past xs k (omega (arith, past))

-- where a machine stands that is not there, and one that is
absent-state : (node : Node) (log : List Entry) (v : ShardView) (key : Key) → HasMachines node log v → home node.shards key.name ≡ v.number → place_in v key ≡ None → logged.state_at node log key ≡ state_for v key
absent-state node log v key M here none =
    let still : logged.moves_of log key ≡ [] = absent-moves node v.number key log here (sym (found node log v key M) ∙ none) in
    let behind : place_for v key ≡ length v.names = ap (λ (o : Option ℕ). unwrap_or o (length v.names)) none in
    let states : length v.states ≡ length v.names = ap length M.states ∙ length-map (logged.directory node v.number log) (logged.state_at node log) ∙ sym (count-of node log v M) in
    let past : slice_get v.states (place_for v key) ≡ None = slice_get-past v.states (place_for v key) (omega (arith, behind, states)) in
    ap (logged.state_after (logged.start (logged.number_for node log key))) still
    ∙ ap logged.start (number-of node log v key M here)
    ∙ sym (ap (λ (o : Option MachineState). unwrap_or o (logged.start (number_for v key))) past)

known-state : (node : Node) (log : List Entry) (v : ShardView) (key : Key) (i : ℕ) → HasMachines node log v → place_in v key ≡ Some i → logged.state_at node log key ≡ state_for v key
known-state node log v key i M known =
    let all : List Key = logged.directory node v.number log in
    let state : Key → MachineState = logged.state_at node log in
    let at = position-Some (λ (k : Key). is_same_key k key) all i key (sym (found node log v key M) ∙ known) in
    let within : i < length (map state all) = omega (arith, at.0, length-map all state) in
    let here : place_for v key ≡ i = ap (λ (o : Option ℕ). unwrap_or o (length v.names)) known in
    let stands : slice_get v.states (place_for v key) ≡ Some (state key) =
    ap (slice_get v.states) here ∙ ap (λ (xs : List MachineState). slice_get xs i) M.states ∙ slice_get-get_or (map state all) i (state key) within
    ∙ ap Some (get_or-map state all i key ∙ ap state (same-key (get_or all i key) key at.1)) in
    sym (ap (λ (o : Option MachineState). unwrap_or o (logged.start (number_for v key))) stands)

-- where a machine stands
pub state-of : (node : Node) (log : List Entry) (v : ShardView) (key : Key) → HasMachines node log v → home node.shards key.name ≡ v.number → logged.state_at node log key ≡ state_for v key
state-of node log v key M here = by (place_in v key) refl
  where
    by : (o : Option ℕ) → place_in v key ≡ o → logged.state_at node log key ≡ state_for v key
    by None e = absent-state node log v key M here e
    by (Some i) e = known-state node log v key i M e

pub state-for : (settings : Settings) (log : List Entry) (v : ShardView) (key : Key) → Stands settings log v → home settings.node.shards key.name ≡ v.number → logged.state_at settings.node log key ≡ state_for v key
state-for settings log v key S here = state-of settings.node log v key (machines-of settings log v S) here

-- all elements pass
abbrev pub Each : {X : Type 0} → (X → Bool) → List X → Type 0
Each p [] = Unit {0}
Each p (x ∷ xs) = (p x ≡ true) × Each p xs

pub each-filter : {X : Type 0} (p : X → Bool) (xs : List X) → Each p (filter p xs)
each-filter p [] = tt
each-filter p (x ∷ xs) = by (p x) refl (each-filter p xs)
  where
    by : (b : Bool) → p x ≡ b → Each p (filter p xs) → Each p (cond b (x ∷ filter p xs) (filter p xs))
    by true e again = (e, again)
    by false e again = again

each-append : {X : Type 0} (p : X → Bool) (xs ys : List X) → Each p xs → Each p ys → Each p (xs ++ ys)
each-append p [] ys left right = right
each-append p (x ∷ xs) ys left right = (left.0, each-append p xs ys left.1 right)

pub each-get : {X : Type 0} (p : X → Bool) (xs : List X) (k : ℕ) (x : X) → Each p xs → slice_get xs k ≡ Some x → p x ≡ true
each-get p [] k x each e = absurd cc
each-get p (y ∷ ys) zero x each e = let g : Some y ≡ Some x = e in let is : y ≡ x = cc in subst (λ z. p z ≡ true) is each.0
each-get p (y ∷ ys) (suc k) x each e = each-get p ys k x each.1 e

each-arrived : (node : Node) (shard : ℕ) (log : List Entry) → Each (logged.is_for node shard) (arrived node log shard)
each-arrived node shard [] = tt
each-arrived node shard (e ∷ es) =
    each-append (logged.is_for node shard) (if is_drop e.step then filter (logged.is_for node shard) (flat_map logged.machine_item (option_to_list e.item)) else []) (arrived node es shard)
    (by (is_drop e.step)) (each-arrived node shard es)
  where
    by : (b : Bool) → Each (logged.is_for node shard) (if b then filter (logged.is_for node shard) (flat_map logged.machine_item (option_to_list e.item)) else [])
    by true = each-filter (logged.is_for node shard) (flat_map logged.machine_item (option_to_list e.item))
    by false = tt

-- the oldest item is for a machine of the shard
pub item-of : (node : Node) (log : List Entry) (number : ℕ) (inbox : InboxView) (item : MachineItem) → inbox.items ≡ arrived node log number → next_in inbox ≡ Some item → home node.shards item.key.name ≡ number
item-of node log number inbox item came next =
    let at : slice_get (arrived node log number) inbox.worked ≡ Some item = sym (ap (λ (xs : List MachineItem). slice_get xs inbox.worked) came) ∙ next in
    eqb-true _ _ (each-get (logged.is_for node number) (arrived node log number) inbox.worked item (each-arrived node number log) at)

pub own-item : (settings : Settings) (log : List Entry) (v : ShardView) (item : MachineItem) → Stands settings log v → next_in v.inbox ≡ Some item → home settings.node.shards item.key.name ≡ v.number
own-item settings log v item S next =
    item-of settings.node log v.number v.inbox item (ap (λ (b : InboxView). b.items) S.inbox) next
