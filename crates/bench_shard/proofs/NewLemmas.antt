-- A shard that was just made is what a log without entries says.
use Rattle.std.proofs.Common.{◌≡◌, ℕ, zero, suc, ◌<◌, Bool, true, false, not, List, [], ◌∷◌, length, map, filter, get_or, Some, refl, sym, ap, subst, ◌∙◌, arith, inl, inr}
use Rattle.std.specs.Prelude.{◌==◌, slice_get, option_map}
use Rattle.std.specs.List.{position_or_len}
use Rattle.std.proofs.lemmas.Bool.{cases_lt, eqb-true}
use Rattle.std.proofs.lemmas.List.{append-nil, get_or_append_left, get_or_push, length-map, same_lists}
use Rattle.std.proofs.lemmas.List.Sums.{position_or_len_is}
use Rattle.std.proofs.lemmas.Option.{get_or_from_slice_get, slice_get-get_or, slice_get-map}
use Rattle.sess_dir.specs.Names.{NoNameTwice}
use Rattle.tab_step.specs.declared.machine.MachineState.{MachineState}
use Rattle.bench_item.specs.declared.key.Key.{Key}
use Rattle.bench_item.specs.declared.key.Role.TheVariants.{Peer}
use Rattle.bench_item.specs.Keys.{Configured, Node, home, in_shard, is_same_key, key_of, node_of, number_at, peers_of}
use Rattle.bench_item.specs.Past.{distinct}
use Rattle.bench_spec.specs.Machines.{directory, start, state_at}
use Rattle.bench_spec.specs.Settings.{Settings}
use Rattle.bench_shard.proofs.KeyLemmas.{key-itself, same-key}
use Rattle.bench_shard.proofs.OpenLemmas.{length-starts}
use Rattle.bench_shard.proofs.ViewLemmas.{Each, each-filter, each-get}
use Rattle.bench_shard.specs.Names.{key_octets}
use Rattle.bench_shard.specs.Stands.{HasMachines, Stands}
use Rattle.bench_shard.specs.View.{ShardView, opened, peer_names, starts}
use Rattle.tab_law.specs.Books.{Laws}

-- the machines of the peers in a shard
abbrev keys_of : ℕ → ℕ → List (List ℕ) → List Key
keys_of shards number hosts = map (key_of Peer) (in_shard shards number hosts)

names-keys : (xs : List (List ℕ)) → map (λ host. key_octets (key_of Peer host)) xs ≡ map key_octets (map (key_of Peer) xs)
names-keys [] = refl
names-keys (x ∷ xs) = ap (λ (ys : List (List ℕ)). key_octets (key_of Peer x) ∷ ys) (names-keys xs)

-- keys whose octets stand once
keep : (k : Key) (ks : List Key) → ((j : ℕ) (y : Key) → slice_get ks j ≡ Some y → is_same_key k y ≡ false) → filter (λ y. not (is_same_key k y)) ks ≡ ks
keep k [] h = refl
keep k (y ∷ ks) h = rw (h 0 y refl) (ap (λ (zs : List Key). y ∷ zs) (keep k ks (λ j z e. h (suc j) z e)))

apart : (k : Key) (ks : List Key) → NoNameTwice (map key_octets (k ∷ ks)) → (j : ℕ) (y : Key) → slice_get ks j ≡ Some y → is_same_key k y ≡ false
apart k ks once j y e = by (is_same_key k y) refl
  where
    by : (b : Bool) → is_same_key k y ≡ b → is_same_key k y ≡ false
    by false h = h
    by true h =
        let at : slice_get (map key_octets (k ∷ ks)) (suc j) ≡ Some (key_octets k) =
        slice_get-map key_octets ks j ∙ ap (option_map key_octets) e ∙ ap (λ (z : Key). Some (key_octets z)) (sym (same-key k y h)) in
        absurd (omega (arith, once 0 (suc j) (key_octets k) refl at))

once-tail : (k : Key) (ks : List Key) → NoNameTwice (map key_octets (k ∷ ks)) → NoNameTwice (map key_octets ks)
once-tail k ks once i j name a b = let e : suc i ≡ suc j = once (suc i) (suc j) name a b in omega (arith, e)

distinct-once : (ks : List Key) → NoNameTwice (map key_octets ks) → distinct is_same_key ks ≡ ks
distinct-once [] once = refl
distinct-once (k ∷ ks) once =
    ap (λ (ys : List Key). k ∷ filter (λ y. not (is_same_key k y)) ys) (distinct-once ks (once-tail k ks once)) ∙ ap (λ (ys : List Key). k ∷ ys) (keep k ks (apart k ks once))

-- each is the first of its own
name-at : (ks : List Key) (i : ℕ) (d : Key) → i < length ks → slice_get (map key_octets ks) i ≡ Some (key_octets (get_or ks i d))
name-at ks i d within = slice_get-map key_octets ks i ∙ ap (option_map key_octets) (slice_get-get_or ks i d within)

before-at : (ks : List Key) → NoNameTwice (map key_octets ks) → (i j : ℕ) (d : Key) → j < length ks → i < j → is_same_key (get_or ks i d) (get_or ks j d) ≡ false
before-at ks once i j d within before = by (is_same_key (get_or ks i d) (get_or ks j d)) refl
  where
    by : (b : Bool) → is_same_key (get_or ks i d) (get_or ks j d) ≡ b → is_same_key (get_or ks i d) (get_or ks j d) ≡ false
    by false h = h
    by true h =
        let same : get_or ks i d ≡ get_or ks j d = same-key (get_or ks i d) (get_or ks j d) h in
        let first : slice_get (map key_octets ks) i ≡ Some (key_octets (get_or ks j d)) = name-at ks i d (omega (arith, within, before)) ∙ ap (λ (z : Key). Some (key_octets z)) same in
        absurd (omega (arith, before, once i j (key_octets (get_or ks j d)) first (name-at ks j d within)))

first-at : (ks : List Key) → NoNameTwice (map key_octets ks) → (i : ℕ) (d : Key) → i < length ks → position_or_len (λ k. is_same_key k (get_or ks i d)) ks ≡ i
first-at ks once i d within =
    position_or_len_is (λ (k : Key). is_same_key k (get_or ks i d)) ks i d (omega (arith, within)) (λ k before. before-at ks once k i d within before) (λ _. key-itself (get_or ks i d))

-- each is of the shard
each-key : (shards number : ℕ) (xs : List (List ℕ)) → Each (λ host. home shards host == number) xs → Each (λ k. home shards k.name == number) (map (key_of Peer) xs)
each-key shards number [] each = tt
each-key shards number (x ∷ xs) each = (each.0, each-key shards number xs each.1)

home-at : (shards number : ℕ) (hosts : List (List ℕ)) (i : ℕ) (d : Key) → i < length (keys_of shards number hosts) → home shards (get_or (keys_of shards number hosts) i d).name ≡ number
home-at shards number hosts i d within =
    eqb-true _ _ (each-get (λ (k : Key). home shards k.name == number) (keys_of shards number hosts) i (get_or (keys_of shards number hosts) i d)
    (each-key shards number (in_shard shards number hosts) (each-filter (λ (host : List ℕ). home shards host == number) hosts)) (slice_get-get_or (keys_of shards number hosts) i d within))

-- the machines of a shard are those of its peers
directory-new : (node : Node) (number : ℕ) → NoNameTwice (map key_octets (keys_of node.shards number node.peers))
    → directory node number [] ≡ keys_of node.shards number node.peers
directory-new node number once =
    ap (distinct is_same_key) (append-nil (keys_of node.shards number node.peers)) ∙ distinct-once (keys_of node.shards number node.peers) once

-- each stands at its start
start-at : (node : Node) (number i : ℕ) (d : Key) → NoNameTwice (map key_octets (keys_of node.shards number node.peers)) → i < length (keys_of node.shards number node.peers)
    → state_at node [] (get_or (keys_of node.shards number node.peers) i d) ≡ start (number_at number i)
start-at node number i d once within =
    let keys : List Key = keys_of node.shards number node.peers in
    let key : Key = get_or keys i d in
    ap (λ (n : ℕ). start (number_at n (position_or_len (λ (k : Key). is_same_key k key) (directory node n [])))) (home-at node.shards number node.peers i d within)
    ∙ ap (λ (ks : List Key). start (number_at number (position_or_len (λ (k : Key). is_same_key k key) ks))) (directory-new node number once)
    ∙ ap (λ (n : ℕ). start (number_at number n)) (first-at keys once i d within)

get-starts : (number count i : ℕ) (d : MachineState) → i < count → get_or (starts number count) i d ≡ start (number_at number i)
get-starts number zero i d within = absurd (omega (arith, within))
get-starts number (suc count) i d within = elim (cases_lt i count) [
  | inl before ↦
      get_or_append_left (starts number count) (start (number_at number count) ∷ []) d i (omega (arith, before, length-starts number count)) ∙ get-starts number count i d before
  | inr last ↦
      let is : i ≡ count = omega (arith, within, last) in
      get_or_push (starts number count) (start (number_at number count)) d i (length-starts number count ∙ sym is) ∙ ap (λ (n : ℕ). start (number_at number n)) (sym is)
]

states-new : (node : Node) (number : ℕ) → NoNameTwice (map key_octets (keys_of node.shards number node.peers))
    → starts number (length (keys_of node.shards number node.peers)) ≡ map (state_at node []) (keys_of node.shards number node.peers)
states-new node number once =
    let keys : List Key = keys_of node.shards number node.peers in
    let state : Key → MachineState = state_at node [] in
    let long : length (starts number (length keys)) ≡ length keys = length-starts number (length keys) in
    same_lists (starts number (length keys)) (map state keys) (long ∙ sym (length-map keys state))
    (λ i d within.
    let inside : i < length keys = omega (arith, within, long) in
    let own : slice_get (map state keys) i ≡ Some (start (number_at number i)) =
    slice_get-map state keys i ∙ ap (option_map state) (slice_get-get_or keys i (key_of Peer []) inside) ∙ ap Some (start-at node number i (key_of Peer []) once inside) in
    get-starts number (length keys) i d inside ∙ sym (get_or_from_slice_get (map state keys) i (start (number_at number i)) d own))

opened-machines : (node : Node) (number : ℕ) → NoNameTwice (peer_names node.shards number node.peers) → HasMachines node [] (opened number (peers_of node))
opened-machines node number once =
    let keys : List Key = keys_of node.shards number node.peers in
    let names : peer_names node.shards number node.peers ≡ map key_octets keys = names-keys (in_shard node.shards number node.peers) in
    let each : NoNameTwice (map key_octets keys) = subst NoNameTwice names once in
    let count : length (peer_names node.shards number node.peers) ≡ length keys = ap length names ∙ length-map keys key_octets in
    let all : directory node number [] ≡ keys = directory-new node number each in
    record {
      names = names ∙ ap (map key_octets) (sym all);
      states = ap (starts number) count ∙ states-new node number each ∙ ap (map (state_at node [])) (sym all);
    }

opened-stands : (settings : Settings) (number : ℕ) → number < settings.node.shards → NoNameTwice (peer_names settings.node.shards number settings.node.peers)
    → Stands settings [] (opened number (peers_of settings.node))
opened-stands settings number here once =
    let machines : HasMachines settings.node [] (opened number (peers_of settings.node)) = opened-machines settings.node number once in
    record {
      here = here;
      peers = refl;
      names = machines.names;
      states = machines.states;
      inbox = refl;
      outbox = refl;
    }

-- a shard of the settings' peers that was just made
pub new-stands : (settings : Settings) (number : ℕ) (peers : Configured) → number < peers.shards → NoNameTwice (peer_names peers.shards number peers.hosts)
    → peers ≡ record { hosts = settings.node.peers; shards = settings.node.shards } → Stands settings [] (opened number peers)
new-stands settings number peers here once is =
    let own : number < settings.node.shards = subst (λ (p : Configured). number < p.shards) is here in
    let each : NoNameTwice (peer_names settings.node.shards number settings.node.peers) = subst (λ (p : Configured). NoNameTwice (peer_names p.shards number p.hosts)) is once in
    subst (λ (p : Configured). Stands settings [] (opened number p)) (sym is) (opened-stands settings number own each)

-- and so has its machines where it is of no settings
pub new-machines : (laws : Laws) (number : ℕ) (peers : Configured) (shard : ShardView) → NoNameTwice (peer_names peers.shards number peers.hosts)
    → shard ≡ opened number peers → HasMachines (node_of laws shard.peers) [] shard
new-machines laws number peers shard once is =
    subst (λ (v : ShardView). HasMachines (node_of laws v.peers) [] v) (sym is) (opened-machines (node_of laws peers) number once)
