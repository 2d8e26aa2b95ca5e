-- A machine that is not in its shard's directory has not moved.
use Rattle.std.proofs.Common.{◌≡◌, ℕ, suc, ◌+◌, ◌≤◌, Bool, true, false, not, cond, List, [], ◌∷◌, ◌++◌, length, map, filter, flat_map, Option, Some, None, refl, sym, ap, subst, ◌∙◌, arith, ltb}
use Rattle.std.specs.Prelude.{◌==◌, position, option_to_list, unwrap_or, if◌then◌else◌}
use Rattle.std.specs.List.{position_or_len}
use Rattle.std.proofs.lemmas.Bool.{eq-eqb, ltb-false, true≢false}
use Rattle.bench_item.specs.declared.entry.Entry.{Entry}
use Rattle.bench_item.specs.declared.entry.Handled.{Handled}
use Rattle.bench_item.specs.declared.entry.Handled.TheVariants.{TooBusy, Stale, Move}
use Rattle.bench_item.specs.declared.entry.Moved.{Moved}
use Rattle.bench_item.specs.declared.item.Item.{Item}
use Rattle.bench_item.specs.declared.item.MachineItem.{MachineItem}
use Rattle.bench_item.specs.declared.key.Key.{Key}
use Rattle.bench_item.specs.declared.key.Role.TheVariants.{Peer}
use Rattle.bench_item.specs.declared.step.Step.{Step}
use Rattle.bench_item.specs.Keys.{Node, home, is_same_key, key_of, peers_in}
use Rattle.bench_item.specs.Past.{distinct}
use Rattle.bench_spec.specs.Machines.{directory, is_for, keys_in, machine_item, moves_in, moves_of}
use Rattle.bench_shard.proofs.KeyLemmas.{key-itself, same-key}

-- no element passes
abbrev pub Misses : {X : Type 0} → (X → Bool) → List X → Type 0
Misses p [] = Unit {0}
Misses p (x ∷ xs) = (p x ≡ false) × Misses p xs

-- where no element is the first that passes
misses-end : {X : Type 0} (p : X → Bool) (xs : List X) → position_or_len p xs ≡ length xs → Misses p xs
misses-end p [] e = tt
misses-end {X = X} p (x ∷ xs) e = by (p x) refl e (λ n. misses-end p xs n)
  where
    by : (b : Bool) → p x ≡ b → cond (not b) (1 + position_or_len p xs) 0 ≡ suc (length xs) → (position_or_len p xs ≡ length xs → Misses p xs) → Misses p (x ∷ xs)
    by true h n again = absurd (omega (arith, n))
    by false h n again = (h, again (omega (arith, n)))

pub first-within : {X : Type 0} (p : X → Bool) (xs : List X) → position_or_len p xs ≤ length xs
first-within p [] = omega arith
first-within {X = X} p (x ∷ xs) = by (p x) (first-within p xs)
  where
    by : (b : Bool) → position_or_len p xs ≤ length xs → cond (not b) (1 + position_or_len p xs) 0 ≤ suc (length xs)
    by true again = omega arith
    by false again = omega (arith, again)

-- the first place that passes, or that behind all, is the place
pub first-or_len : {X : Type 0} (p : X → Bool) (xs : List X) → unwrap_or (position p xs) (length xs) ≡ position_or_len p xs
first-or_len p xs = by (ltb (position_or_len p xs) (length xs)) refl
  where
    by : (b : Bool) → ltb (position_or_len p xs) (length xs) ≡ b → unwrap_or (cond b (Some (position_or_len p xs)) None) (length xs) ≡ position_or_len p xs
    by true h = refl
    by false h = omega (arith, ltb-false _ _ h, first-within p xs)

pub misses-none : {X : Type 0} (p : X → Bool) (xs : List X) → position p xs ≡ None → Misses p xs
misses-none p xs e = misses-end p xs (sym (first-or_len p xs) ∙ ap (λ (o : Option ℕ). unwrap_or o (length xs)) e)

misses-left : {X : Type 0} (p : X → Bool) (xs ys : List X) → Misses p (xs ++ ys) → Misses p xs
misses-left p [] ys m = tt
misses-left p (x ∷ xs) ys m = (m.0, misses-left p xs ys m.1)

misses-right : {X : Type 0} (p : X → Bool) (xs ys : List X) → Misses p (xs ++ ys) → Misses p ys
misses-right p [] ys m = m
misses-right p (x ∷ xs) ys m = misses-right p xs ys m.1

-- keys of which each stands once, where it stands first
misses-unfiltered : (key x : Key) (ys : List Key) → is_same_key x key ≡ false → Misses (λ k. is_same_key k key) (filter (λ y. not (is_same_key x y)) ys) → Misses (λ k. is_same_key k key) ys
misses-unfiltered key x [] h m = tt
misses-unfiltered key x (y ∷ ys) h m = by (is_same_key x y) refl m (misses-unfiltered key x ys h)
  where
    by : (b : Bool) → is_same_key x y ≡ b → Misses (λ k. is_same_key k key) (cond (not b) (y ∷ filter (λ z. not (is_same_key x z)) ys) (filter (λ z. not (is_same_key x z)) ys))
        → (Misses (λ k. is_same_key k key) (filter (λ z. not (is_same_key x z)) ys) → Misses (λ k. is_same_key k key) ys) → Misses (λ k. is_same_key k key) (y ∷ ys)
    by true e n again = (subst (λ (k : Key). is_same_key k key ≡ false) (same-key x y e) h, again n)
    by false e n again = (n.0, again n.1)

misses-distinct : (key : Key) (xs : List Key) → Misses (λ k. is_same_key k key) (distinct is_same_key xs) → Misses (λ k. is_same_key k key) xs
misses-distinct key [] m = tt
misses-distinct key (x ∷ xs) m = (m.0, misses-distinct key xs (misses-unfiltered key x (distinct is_same_key xs) m.0 m.1))

-- items that led to no moves
flat-none : (key : Key) (moves : List Moved) → moves ≡ [] → (xs : List MachineItem) → flat_map (λ item. if is_same_key key item.key then moves else []) xs ≡ []
flat-none key moves e [] = refl
flat-none key moves e (x ∷ xs) = by (is_same_key key x.key) (flat-none key moves e xs)
  where
    by : (b : Bool) → flat_map (λ item. if is_same_key key item.key then moves else []) xs ≡ [] → (if b then moves else []) ++ flat_map (λ item. if is_same_key key item.key then moves else []) xs ≡ []
    by true again = ap (λ (ms : List Moved). ms ++ flat_map (λ item. if is_same_key key item.key then moves else []) xs) e ∙ again
    by false again = again

items-none : (node : Node) (shard : ℕ) (key : Key) (moves : List Moved) (xs : List MachineItem) → home node.shards key.name ≡ shard
    → Misses (λ k. is_same_key k key) (map (λ item. item.key) (filter (is_for node shard) xs)) → flat_map (λ item. if is_same_key key item.key then moves else []) xs ≡ []
items-none node shard key moves [] here m = refl
items-none node shard key moves (x ∷ xs) here m = by (is_same_key key x.key) refl (is_for node shard x) refl m (items-none node shard key moves xs here)
  where
    by : (b : Bool) → is_same_key key x.key ≡ b → (t : Bool) → is_for node shard x ≡ t
        → Misses (λ k. is_same_key k key) (map (λ item. item.key) (cond t (x ∷ filter (is_for node shard) xs) (filter (is_for node shard) xs)))
        → (Misses (λ k. is_same_key k key) (map (λ item. item.key) (filter (is_for node shard) xs)) → flat_map (λ item. if is_same_key key item.key then moves else []) xs ≡ [])
        → (if b then moves else []) ++ flat_map (λ item. if is_same_key key item.key then moves else []) xs ≡ []
    by true same true own n again =
        let wrong : is_same_key x.key key ≡ true = subst (λ (k : Key). is_same_key k key ≡ true) (same-key key x.key same) (key-itself key) in
        absurd (true≢false (sym wrong ∙ n.0))
    by true same false own n again =
        let is : (home node.shards x.key.name == shard) ≡ true = eq-eqb _ _ (ap (λ (k : Key). home node.shards k.name) (sym (same-key key x.key same)) ∙ here) in
        absurd (true≢false (sym is ∙ own))
    by false same true own n again = again n.1
    by false same false own n again = again n

entry-none : (node : Node) (shard : ℕ) (key : Key) (step : Step) (item : Option Item) (handled : Option Handled) → home node.shards key.name ≡ shard
    → Misses (λ k. is_same_key k key) (keys_in node shard (record { step = step; item = item; handled = handled })) → moves_in key (record { step = step; item = item; handled = handled }) ≡ []
entry-none node shard key step item None here m = flat-none key [] refl (flat_map machine_item (option_to_list item))
entry-none node shard key step item (Some TooBusy) here m = flat-none key [] refl (flat_map machine_item (option_to_list item))
entry-none node shard key step item (Some (Stale state)) here m = flat-none key [] refl (flat_map machine_item (option_to_list item))
entry-none node shard key step item (Some (Move moved)) here m = items-none node shard key (moved ∷ []) (flat_map machine_item (option_to_list item)) here m

log-none : (node : Node) (shard : ℕ) (key : Key) (log : List Entry) → home node.shards key.name ≡ shard
    → Misses (λ k. is_same_key k key) (flat_map (keys_in node shard) log) → moves_of log key ≡ []
log-none node shard key [] here m = refl
log-none node shard key (e ∷ es) here m =
    let own : moves_in key e ≡ [] = entry-none node shard key e.step e.item e.handled here (misses-left (λ (k : Key). is_same_key k key) (keys_in node shard e) (flat_map (keys_in node shard) es) m) in
    let rest : moves_of es key ≡ [] = log-none node shard key es here (misses-right (λ (k : Key). is_same_key k key) (keys_in node shard e) (flat_map (keys_in node shard) es) m) in
    ap (λ (ms : List Moved). ms ++ moves_of es key) own ∙ rest

-- a machine that is not there has not moved
pub absent-moves : (node : Node) (shard : ℕ) (key : Key) (log : List Entry) → home node.shards key.name ≡ shard
    → position (λ k. is_same_key k key) (directory node shard log) ≡ None → moves_of log key ≡ []
absent-moves node shard key log here none =
    let all : Misses (λ k. is_same_key k key) (map (key_of Peer) (peers_in node shard) ++ flat_map (keys_in node shard) log) =
    misses-distinct key (map (key_of Peer) (peers_in node shard) ++ flat_map (keys_in node shard) log) (misses-none (λ (k : Key). is_same_key k key) (directory node shard log) none) in
    log-none node shard key log here (misses-right (λ (k : Key). is_same_key k key) (map (key_of Peer) (peers_in node shard)) (flat_map (keys_in node shard) log) all)
