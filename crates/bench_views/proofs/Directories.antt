-- The directory of a shard, the numbers of its machines and where they stand, with one more entry.
use Rattle.std.proofs.Common.{◌≡◌, ◌+◌, ℕ, List, [], ◌∷◌, ◌++◌, Bool, true, false, refl, sym, ◌∙◌, ap, append_assoc, arith}
use Rattle.std.specs.Prelude.{◌==◌, filter, map, flat_map, not, ◌||◌, cond}
use Rattle.std.specs.List.{list_any, position_or_len, AllByRecursion as Each}
use Rattle.std.proofs.lemmas.Bool.{false≢true}
use Rattle.std.proofs.lemmas.Bool.Decides.{nat_tests}
use Rattle.std.proofs.lemmas.List.{append-nil}
use Rattle.bench_item.specs.declared.entry.Entry.{Entry}
use Rattle.bench_item.specs.declared.entry.Moved.{Moved}
use Rattle.bench_item.specs.declared.item.MachineItem.{MachineItem}
use Rattle.bench_item.specs.declared.key.Key.{Key}
use Rattle.bench_item.specs.declared.key.Role.TheVariants.{Peer}
use Rattle.bench_item.specs.Keys.{Node, home, is_same_key, key_of, number_at, peers_in}
use Rattle.bench_item.specs.Past.{distinct}
use Rattle.bench_spec.specs.Machines.{directory, is_for, keys_in, moves_in, moves_of, number_for, start, state_after, state_at, taken_in}
use Rattle.bench_spec.proofs.AfterLemmas.{flat_map-snoc}
use Rattle.bench_spec.proofs.RunLemmas.{after_append, key_itself, key_sound}
use Rattle.bench_views.proofs.Distinct.{AreApart, Each-append, Each-distinct, Each-passes, distinct-snoc, distinct_apart, with_new}

-- one more entry that brings no machine into the shard
pub directory-same : (node : Node) (shard : ℕ) (log : List Entry) (e : Entry) → keys_in node shard e ≡ [] → directory node shard (log ++ e ∷ []) ≡ directory node shard log
directory-same node shard log e none =
    ap (λ ks. distinct is_same_key (map (key_of Peer) (peers_in node shard) ++ ks))
    (flat_map-snoc (keys_in node shard) log e ∙ ap (λ ks. flat_map (keys_in node shard) log ++ ks) none ∙ append-nil (flat_map (keys_in node shard) log))

-- one more entry that brings one, unless it is there
pub directory-new : (node : Node) (shard : ℕ) (log : List Entry) (e : Entry) (key : Key) → keys_in node shard e ≡ key ∷ [] → directory node shard (log ++ e ∷ []) ≡ with_new is_same_key key (directory node shard log)
directory-new node shard log e key one =
    ap (λ ks. distinct is_same_key (peers ++ ks)) (flat_map-snoc (keys_in node shard) log e ∙ ap (λ ks. flat_map (keys_in node shard) log ++ ks) one)
    ∙ ap (distinct is_same_key) (sym (append_assoc peers (flat_map (keys_in node shard) log) (key ∷ [])))
    ∙ distinct-snoc is_same_key key_sound key (peers ++ flat_map (keys_in node shard) log)
  where
    peers : List Key
    peers = map (key_of Peer) (peers_in node shard)

pub directory_apart : (node : Node) (shard : ℕ) (log : List Entry) → AreApart is_same_key (directory node shard log)
directory_apart node shard log = distinct_apart is_same_key (map (key_of Peer) (peers_in node shard) ++ flat_map (keys_in node shard) log)

-- each machine of a directory is one of its shard
abbrev pub IsHome : Node → ℕ → Key → Type 0
IsHome node shard key = home node.shards key.name ≡ shard

same_number : (a b : ℕ) → (a == b) ≡ true → a ≡ b
same_number a b h = grind (arith, nat_tests)

peers_home : (node : Node) (shard : ℕ) (hosts : List (List ℕ)) → Each (λ host. (home node.shards host == shard) ≡ true) hosts → Each (IsHome node shard) (map (key_of Peer) hosts)
peers_home node shard [] h = tt
peers_home node shard (host ∷ hosts) h = (same_number (home node.shards host) shard h.0, peers_home node shard hosts h.1)

items_home : (node : Node) (shard : ℕ) (items : List MachineItem) → Each (λ item. is_for node shard item ≡ true) items → Each (IsHome node shard) (map (λ item. item.key) items)
items_home node shard [] h = tt
items_home node shard (item ∷ items) h = (same_number (home node.shards item.key.name) shard h.0, items_home node shard items h.1)

keys_home : (node : Node) (shard : ℕ) (log : List Entry) → Each (IsHome node shard) (flat_map (keys_in node shard) log)
keys_home node shard [] = tt
keys_home node shard (e ∷ log) =
    Each-append (IsHome node shard) (keys_in node shard e) (flat_map (keys_in node shard) log)
    (items_home node shard (filter (is_for node shard) (taken_in e)) (Each-passes (is_for node shard) (taken_in e)))
    (keys_home node shard log)

pub directory_home : (node : Node) (shard : ℕ) (log : List Entry) → Each (IsHome node shard) (directory node shard log)
directory_home node shard log =
    Each-distinct is_same_key (IsHome node shard) (map (key_of Peer) (peers_in node shard) ++ flat_map (keys_in node shard) log)
    (Each-append (IsHome node shard) (map (key_of Peer) (peers_in node shard)) (flat_map (keys_in node shard) log)
    (peers_home node shard (peers_in node shard) (Each-passes (λ host. home node.shards host == shard) node.peers))
    (keys_home node shard log))

-- the first place of an item stays where another one comes behind it
pub place-new : {X : Type 0} (is_same : X → X → Bool) (p : X → Bool) (k : X) (xs : List X) → list_any p xs ≡ true → position_or_len p (with_new is_same k xs) ≡ position_or_len p xs
place-new {X} is_same p k xs there = by (list_any (λ y. is_same y k) xs) refl
  where
    at_front : (ys : List X) → list_any p ys ≡ true → position_or_len p (ys ++ k ∷ []) ≡ position_or_len p ys
    at_front [] any = absurd (false≢true any)
    at_front (y ∷ ys) any = next (at_front ys) (p y) refl
      where
        next : (list_any p ys ≡ true → position_or_len p (ys ++ k ∷ []) ≡ position_or_len p ys) → (b : Bool) → p y ≡ b → position_or_len p ((y ∷ ys) ++ k ∷ []) ≡ position_or_len p (y ∷ ys)
        next later true is = rw is refl
        next later false is = ap (λ n. cond (not (p y)) (1 + n) 0) (later (sym (ap (λ b. b || list_any p ys) is) ∙ any))

    by : (b : Bool) → list_any (λ y. is_same y k) xs ≡ b → position_or_len p (with_new is_same k xs) ≡ position_or_len p xs
    by true is = rw is refl
    by false is = rw is (at_front xs there)

-- the machine that comes behind all has the next place
place-last : {X : Type 0} (p : X → Bool) (k : X) (xs : List X) → p k ≡ true → position_or_len p (xs ++ k ∷ []) ≡ position_or_len p xs
place-last p k [] itself = rw itself refl
place-last p k (x ∷ xs) itself = ap (λ n. cond (not (p x)) (1 + n) 0) (place-last p k xs itself)

pub place-own : {X : Type 0} (is_same : X → X → Bool) (k : X) (xs : List X) → is_same k k ≡ true → position_or_len (λ y. is_same y k) (with_new is_same k xs) ≡ position_or_len (λ y. is_same y k) xs
place-own {X} is_same k xs itself = by (list_any (λ y. is_same y k) xs) refl
  where
    by : (b : Bool) → list_any (λ y. is_same y k) xs ≡ b → position_or_len (λ y. is_same y k) (with_new is_same k xs) ≡ position_or_len (λ y. is_same y k) xs
    by true is = rw is refl
    by false is = rw is (place-last (λ y. is_same y k) k xs itself)

-- the number of a machine whose shard gets no other one
pub number_for-same : (node : Node) (log : List Entry) (e : Entry) (key : Key) → keys_in node (home node.shards key.name) e ≡ [] → number_for node (log ++ e ∷ []) key ≡ number_for node log key
number_for-same node log e key none =
    ap (λ ks. number_at (home node.shards key.name) (position_or_len (λ k. is_same_key k key) ks)) (directory-same node (home node.shards key.name) log e none)

-- of one that is there when another comes
pub number_for-other : (node : Node) (log : List Entry) (e : Entry) (new key : Key) → keys_in node (home node.shards key.name) e ≡ new ∷ [] → list_any (λ k. is_same_key k key) (directory node (home node.shards key.name) log) ≡ true → number_for node (log ++ e ∷ []) key ≡ number_for node log key
number_for-other node log e new key one there =
    ap (λ ks. number_at (home node.shards key.name) (position_or_len (λ k. is_same_key k key) ks)) (directory-new node (home node.shards key.name) log e new one)
    ∙ ap (number_at (home node.shards key.name)) (place-new is_same_key (λ k. is_same_key k key) new (directory node (home node.shards key.name) log) there)

-- and of the one that comes
pub number_for-own : (node : Node) (log : List Entry) (e : Entry) (key : Key) → keys_in node (home node.shards key.name) e ≡ key ∷ [] → number_for node (log ++ e ∷ []) key ≡ number_for node log key
number_for-own node log e key one =
    ap (λ ks. number_at (home node.shards key.name) (position_or_len (λ k. is_same_key k key) ks)) (directory-new node (home node.shards key.name) log e key one)
    ∙ ap (number_at (home node.shards key.name)) (place-own is_same_key key (directory node (home node.shards key.name) log) (key_itself key))

-- where a machine stands: as before where it did not move, else as its move left it
pub moves_of-snoc : (log : List Entry) (e : Entry) (key : Key) → moves_of (log ++ e ∷ []) key ≡ moves_of log key ++ moves_in key e
moves_of-snoc log e key = flat_map-snoc (moves_in key) log e

pub state_at-same : (node : Node) (log : List Entry) (e : Entry) (key : Key) → number_for node (log ++ e ∷ []) key ≡ number_for node log key → moves_in key e ≡ [] → state_at node (log ++ e ∷ []) key ≡ state_at node log key
state_at-same node log e key number none =
    ap (λ n. state_after (start n) (moves_of (log ++ e ∷ []) key)) number
    ∙ ap (state_after (start (number_for node log key))) (moves_of-snoc log e key ∙ ap (λ ms. moves_of log key ++ ms) none ∙ append-nil (moves_of log key))

pub state_at-moved : (node : Node) (log : List Entry) (e : Entry) (key : Key) (moved : Moved) → moves_in key e ≡ moved ∷ [] → state_at node (log ++ e ∷ []) key ≡ moved.after
state_at-moved node log e key moved one =
    ap (state_after (start (number_for node (log ++ e ∷ []) key))) (moves_of-snoc log e key ∙ ap (λ ms. moves_of log key ++ ms) one)
    ∙ after_append (start (number_for node (log ++ e ∷ []) key)) (moves_of log key) (moved ∷ [])
