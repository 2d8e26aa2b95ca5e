-- What an entry of work brings into directories and moves, and where it leaves the machines of a shard.
use Rattle.std.proofs.Common.{◌≡◌, ◌+◌, ℕ, List, [], ◌∷◌, ◌++◌, Bool, true, false, Some, refl, sym, ◌∙◌, ap, arith, length, suc}
use Rattle.std.specs.Prelude.{◌==◌, map, flat_map, if◌then◌else◌, nat_lt, slice_set, ◌≢◌}
use Rattle.std.specs.List.{position_or_len}
use Rattle.std.proofs.lemmas.Bool.Decides.{nat_tests}
use Rattle.bench_item.specs.declared.entry.Entry.{Entry}
use Rattle.bench_item.specs.declared.entry.Handled.{Handled}
use Rattle.bench_item.specs.declared.entry.Handled.TheVariants.{Move, Stale, TooBusy}
use Rattle.bench_item.specs.declared.entry.Moved.{Moved}
use Rattle.bench_item.specs.declared.item.Item.TheVariants.{ToMachine}
use Rattle.bench_item.specs.declared.item.MachineItem.{MachineItem}
use Rattle.bench_item.specs.declared.key.Key.{Key}
use Rattle.bench_item.specs.declared.step.Step.TheVariants.{Work}
use Rattle.bench_item.specs.Entries.{moved_in}
use Rattle.bench_item.specs.Keys.{Node, home, is_same_key}
use Rattle.bench_spec.specs.Machines.{directory, keys_in, moves_in, state_at}
use Rattle.bench_spec.proofs.BookLemmas.{entry_of}
use Rattle.bench_spec.proofs.RunLemmas.{key_itself, key_sound}
use Rattle.bench_views.proofs.Directories.{number_for-own, state_at-moved, state_at-same}
use Rattle.bench_views.proofs.Standing.{put_for, states-put, states-same, states_of}

-- the entry in which a shard handles an item
abbrev pub work_entry : ℕ → MachineItem → Handled → Entry
work_entry shard item handled = entry_of (Work shard) (Some (ToMachine item)) (Some handled)

itself : (n : ℕ) → (n == n) ≡ true
itself n = grind (arith, nat_tests)

differs : (a b : ℕ) → a ≢ b → (a == b) ≡ false
differs a b h = grind (arith, nat_tests, h)

-- the machine of an item that finds room comes into its shard's directory
pub keys-moved : (node : Node) (shard k : ℕ) (item : MachineItem) (moved : Moved) → home node.shards item.key.name ≡ k → keys_in node k (work_entry shard item (Move moved)) ≡ item.key ∷ []
keys-moved node shard k item moved here = ap (λ (b : Bool). map (λ (i : MachineItem). i.key) (if b then item ∷ [] else [])) (ap (λ n. n == k) here ∙ itself k)

pub keys-stale : (node : Node) (shard k : ℕ) (item : MachineItem) (state : ℕ) → home node.shards item.key.name ≡ k → keys_in node k (work_entry shard item (Stale state)) ≡ item.key ∷ []
keys-stale node shard k item state here = ap (λ (b : Bool). map (λ (i : MachineItem). i.key) (if b then item ∷ [] else [])) (ap (λ n. n == k) here ∙ itself k)

-- and into no other one
pub keys-other : (node : Node) (shard k : ℕ) (item : MachineItem) (handled : Handled) → home node.shards item.key.name ≢ k → keys_in node k (work_entry shard item handled) ≡ []
keys-other node shard k item TooBusy apart = refl
keys-other node shard k item (Stale state) apart = ap (λ (b : Bool). map (λ (i : MachineItem). i.key) (if b then item ∷ [] else [])) (differs (home node.shards item.key.name) k apart)
keys-other node shard k item (Move moved) apart = ap (λ (b : Bool). map (λ (i : MachineItem). i.key) (if b then item ∷ [] else [])) (differs (home node.shards item.key.name) k apart)

-- an entry without a move moves nothing
none_for : (b : Bool) → (xs : List Moved) → xs ≡ [] → (if b then xs else []) ≡ []
none_for true xs h = h
none_for false xs h = refl

flat_none : (key : Key) (e : Entry) → moved_in e ≡ [] → (items : List MachineItem) → flat_map (λ (item : MachineItem). if is_same_key key item.key then moved_in e else []) items ≡ []
flat_none key e none [] = refl
flat_none key e none (item ∷ items) = ap (λ ms. ms ++ flat_map (λ (i : MachineItem). if is_same_key key i.key then moved_in e else []) items) (none_for (is_same_key key item.key) (moved_in e) none) ∙ flat_none key e none items

pub moves-none : (key : Key) (e : Entry) → moved_in e ≡ [] → moves_in key e ≡ []
moves-none key e none = flat_none key e none _

-- the machine that an item names moves, and no other
pub moves-other : (shard : ℕ) (item : MachineItem) (handled : Handled) (key : Key) → is_same_key key item.key ≡ false → moves_in key (work_entry shard item handled) ≡ []
moves-other shard item handled key apart = rw apart refl

pub moves-own : (shard : ℕ) (item : MachineItem) (moved : Moved) → moves_in item.key (work_entry shard item (Move moved)) ≡ moved ∷ []
moves-own shard item moved = rw (key_itself item.key) refl

pub moves-stale : (shard : ℕ) (item : MachineItem) (state : ℕ) (key : Key) → moves_in key (work_entry shard item (Stale state)) ≡ []
moves-stale shard item state key = moves-none key (work_entry shard item (Stale state)) refl

pub moves-busy : (shard : ℕ) (item : MachineItem) (key : Key) → moves_in key (work_entry shard item TooBusy) ≡ []
moves-busy shard item key = moves-none key (work_entry shard item TooBusy) refl

-- machines of different shards differ
pub apart-homes : (node : Node) (key other : Key) (k : ℕ) → home node.shards key.name ≡ k → home node.shards other.name ≢ k → is_same_key key other ≡ false
apart-homes node key other k here elsewhere = by (is_same_key key other) refl
  where
    by : (b : Bool) → is_same_key key other ≡ b → b ≡ false
    by true is = absurd (elsewhere (ap (λ (o : Key). home node.shards o.name) (sym (key_sound key other is)) ∙ here))
    by false is = refl

-- the states of the machines of a shard after an item that moved one of them,
pub states-moved : (node : Node) (k : ℕ) (log : List Entry) (item : MachineItem) (moved : Moved) → home node.shards item.key.name ≡ k → states_of node k (log ++ work_entry k item (Move moved) ∷ []) ≡ put_for is_same_key item.key moved.after (directory node k log) (states_of node k log)
states-moved node k log item moved here =
    states-put node k log (work_entry k item (Move moved)) item.key here (keys-moved node k k item moved here) (λ other home_is apart. moves-other k item (Move moved) other apart)
    ∙ ap (λ s. put_for is_same_key item.key s (directory node k log) (states_of node k log)) (state_at-moved node log (work_entry k item (Move moved)) item.key moved (moves-own k item moved))

-- a stale one: its machine stands as before, at its start where it comes into the directory,
pub states-stale : (node : Node) (k : ℕ) (log : List Entry) (item : MachineItem) (state : ℕ) → home node.shards item.key.name ≡ k → states_of node k (log ++ work_entry k item (Stale state) ∷ []) ≡ put_for is_same_key item.key (state_at node log item.key) (directory node k log) (states_of node k log)
states-stale node k log item state here =
    states-put node k log (work_entry k item (Stale state)) item.key here (keys-stale node k k item state here) (λ other home_is apart. moves-stale k item state other)
    ∙ ap (λ s. put_for is_same_key item.key s (directory node k log) (states_of node k log))
    (state_at-same node log (work_entry k item (Stale state)) item.key (number_for-own node log (work_entry k item (Stale state)) item.key (keys-stale node k (home node.shards item.key.name) item state refl)) (moves-stale k item state item.key))

-- one that found no room,
pub states-busy : (node : Node) (shard k : ℕ) (log : List Entry) (item : MachineItem) → states_of node k (log ++ work_entry shard item TooBusy ∷ []) ≡ states_of node k log
states-busy node shard k log item = states-same node k log (work_entry shard item TooBusy) refl (λ key home_is. moves-busy shard item key)

-- and one of another shard
pub states-elsewhere : (node : Node) (shard k : ℕ) (log : List Entry) (item : MachineItem) (handled : Handled) → home node.shards item.key.name ≢ k → states_of node k (log ++ work_entry shard item handled ∷ []) ≡ states_of node k log
states-elsewhere node shard k log item handled apart =
    states-same node k log (work_entry shard item handled) (keys-other node shard k item handled apart)
    (λ key home_is. moves-other shard item handled key (apart-homes node key item.key k home_is apart))

-- one place further
one_more : (n m : ℕ) (b : Bool) → nat_lt n m ≡ b → nat_lt (1 + n) (suc m) ≡ b
one_more n m true is = grind (arith, nat_tests, is)
one_more n m false is = grind (arith, nat_tests, is)

set_more : {Y : Type 0} (y v : Y) (ys : List Y) (n : ℕ) → slice_set (y ∷ ys) (1 + n) v ≡ y ∷ slice_set ys n v
set_more {Y} y v ys n = ap (λ i. slice_set (y ∷ ys) i v) same
  where
    same : 1 + n ≡ suc n
    same = omega arith

first_place : (m : ℕ) → nat_lt 0 (suc m) ≡ true
first_place m = grind (arith, nat_tests)

-- values that are put for an item, by its place
pub put_for-place : {X Y : Type 0} (is_same : X → X → Bool) (k : X) (v : Y) (xs : List X) (ys : List Y) → length xs ≡ length ys → put_for is_same k v xs ys ≡ (if nat_lt (position_or_len (λ y. is_same y k) xs) (length ys) then slice_set ys (position_or_len (λ y. is_same y k) xs) v else ys ++ v ∷ [])
put_for-place is_same k v [] [] same = refl
put_for-place is_same k v [] (y ∷ ys) same = absurd (omega (arith, same))
put_for-place is_same k v (x ∷ xs) [] same = absurd (omega (arith, same))
put_for-place {X} {Y} is_same k v (x ∷ xs) (y ∷ ys) same = by (put_for-place is_same k v xs ys (omega (arith, same))) (is_same x k) refl
  where
    at : X → Bool
    at z = is_same z k

    later_set : (b : Bool) (n : ℕ) → nat_lt n (length ys) ≡ b → y ∷ (if b then slice_set ys n v else ys ++ v ∷ []) ≡ (if nat_lt (1 + n) (length (y ∷ ys)) then slice_set (y ∷ ys) (1 + n) v else (y ∷ ys) ++ v ∷ [])
    later_set true n is = rw (one_more n (length ys) true is) (sym (set_more y v ys n))
    later_set false n is = rw (one_more n (length ys) false is) refl

    by : put_for is_same k v xs ys ≡ (if nat_lt (position_or_len at xs) (length ys) then slice_set ys (position_or_len at xs) v else ys ++ v ∷ []) → (b : Bool) → is_same x k ≡ b → put_for is_same k v (x ∷ xs) (y ∷ ys) ≡ (if nat_lt (position_or_len at (x ∷ xs)) (length (y ∷ ys)) then slice_set (y ∷ ys) (position_or_len at (x ∷ xs)) v else (y ∷ ys) ++ v ∷ [])
    by later true is = rw (is, first_place (length ys)) refl
    by later false is = rw is (ap (λ zs. y ∷ zs) later ∙ later_set (nat_lt (position_or_len at xs) (length ys)) (position_or_len at xs) refl)
