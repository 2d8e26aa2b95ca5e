-- The place of a machine in the directory of its shard, and the machines that entries bring into it.
use Rattle.std.proofs.Common.{◌≡◌, ◌∙◌, ◌+◌, ℕ, suc, List, [], ◌∷◌, ◌++◌, Bool, true, false, length, map, refl, ap}
use Rattle.std.proofs.Common.{sym, arith, inl, inr}
use Rattle.std.specs.Prelude.{◌||◌, cond, filter, flat_map, is_some, nat_eq, position, Option, Some, None}
use Rattle.std.specs.List.{list_any, position_from}
use Rattle.std.specs.Option.{option_map}
use Rattle.std.proofs.lemmas.Bool.{cases_Bool, cond-false, cond-true, false≢true, or_from, or_parts}
use Rattle.std.proofs.lemmas.Iterator.Adapters.{position_from-zero}
use Rattle.std.proofs.lemmas.List.{append-nil, append_assoc}
use Rattle.std.proofs.lemmas.List.Folds.{list_any-append}
use Rattle.std.proofs.lemmas.Option.{none-some}
use Rattle.bench_item.specs.Keys.{Node, home, is_same_key, key_of, number_at, peers_in}
use Rattle.bench_item.specs.Past.{distinct}
use Rattle.bench_item.specs.declared.entry.Entry.{Entry}
use Rattle.bench_item.specs.declared.item.MachineItem.{MachineItem}
use Rattle.bench_item.specs.declared.key.Key.{Key}
use Rattle.bench_item.specs.declared.key.Role.TheVariants.{Peer}
use Rattle.bench_spec.specs.Machines.{directory, is_for, keys_in, number_of, taken_in}
use Rattle.bench_spec.proofs.NumberLemmas.{added_key, any-distinct, directory-more, directory-same, distinct-snoc}
use Rattle.bench_spec.proofs.RunLemmas.{key_sound}
use Rattle.bench_looks.specs.Brought.{AreBrought, BringsKeys}
use Rattle.bench_looks.specs.Tallies.{is_key, taken_key, taken_keys}

-- the first place that passes, in two lists
from-found : {X : Type 0} (p : X → Bool) (i n : ℕ) (xs ys : List X) → position_from p i xs ≡ Some n
    → position_from p i (xs ++ ys) ≡ Some n
from-found p i n [] ys is = absurd (none-some n is)
from-found {X} p i n (x ∷ xs) ys is = by (p x) is (from-found p (i + 1) n xs ys)
  where
    by : (b : Bool) → cond b (Some i) (position_from p (i + 1) xs) ≡ Some n
        → (position_from p (i + 1) xs ≡ Some n → position_from p (i + 1) (xs ++ ys) ≡ Some n)
        → cond b (Some i) (position_from p (i + 1) (xs ++ ys)) ≡ Some n
    by true first again = first
    by false first again = again first

from-later : {X : Type 0} (p : X → Bool) (i : ℕ) (xs ys : List X) → position_from p i xs ≡ None
    → position_from p i (xs ++ ys) ≡ position_from p (i + length xs) ys
from-later p i [] ys is = let same : i ≡ i + 0 = omega arith in ap (λ k. position_from p k ys) same
from-later {X} p i (x ∷ xs) ys is = by (p x) is (from-later p (i + 1) xs ys)
  where
    by : (b : Bool) → cond b (Some i) (position_from p (i + 1) xs) ≡ None
        → (position_from p (i + 1) xs ≡ None
        → position_from p (i + 1) (xs ++ ys) ≡ position_from p (i + 1 + length xs) ys)
        → cond b (Some i) (position_from p (i + 1) (xs ++ ys)) ≡ position_from p (i + suc (length xs)) ys
    by true first again = absurd (none-some i (sym first))
    by false first again =
        let same : i + 1 + length xs ≡ i + suc (length xs) = omega arith in
        again first ∙ ap (λ k. position_from p k ys) same

from-shift : {X : Type 0} (p : X → Bool) (k i : ℕ) (xs : List X)
    → position_from p (k + i) xs ≡ option_map (λ n. k + n) (position_from p i xs)
from-shift p k i [] = refl
from-shift {X} p k i (x ∷ xs) = by (p x) (from-shift p k (i + 1) xs)
  where
    by : (b : Bool) → position_from p (k + (i + 1)) xs ≡ option_map (λ n. k + n) (position_from p (i + 1) xs)
        → cond b (Some (k + i)) (position_from p (k + i + 1) xs)
        ≡ option_map (λ n. k + n) (cond b (Some i) (position_from p (i + 1) xs))
    by true again = refl
    by false again =
        let same : k + i + 1 ≡ k + (i + 1) = omega arith in
        ap (λ m. position_from p m xs) same ∙ again

-- there is none where none passes, and none passes where there is none
from-none : {X : Type 0} (p : X → Bool) (i : ℕ) (xs : List X) → list_any p xs ≡ false → position_from p i xs ≡ None
from-none p i [] fails = refl
from-none p i (x ∷ xs) fails =
    let both = or_parts (p x) (list_any p xs) fails in
    cond-false (p x) (Some i) (position_from p (i + 1) xs) both.0 ∙ from-none p (i + 1) xs both.1

none-from : {X : Type 0} (p : X → Bool) (i : ℕ) (xs : List X) → position_from p i xs ≡ None → list_any p xs ≡ false
none-from p i [] none = refl
none-from p i (x ∷ xs) none =
    elim (cases_Bool (p x)) [
      | inl is ↦ absurd (none-some i (sym none ∙ cond-true (p x) (Some i) (position_from p (i + 1) xs) is))
      | inr is ↦
          or_from (p x) (list_any p xs) is
          (none-from p (i + 1) xs (sym (cond-false (p x) (Some i) (position_from p (i + 1) xs) is) ∙ none))
    ]

some-from : {X : Type 0} (p : X → Bool) (i : ℕ) (xs : List X) → is_some (position_from p i xs) ≡ list_any p xs
some-from p i [] = refl
some-from {X} p i (x ∷ xs) = by (p x) (some-from p (i + 1) xs)
  where
    by : (b : Bool) → is_some (position_from p (i + 1) xs) ≡ list_any p xs
        → is_some (cond b (Some i) (position_from p (i + 1) xs)) ≡ (b || list_any p xs)
    by true same = refl
    by false same = same

position-from : {X : Type 0} (p : X → Bool) (xs : List X) → position p xs ≡ position_from p 0 xs
position-from p xs = position_from-zero p xs

position-some : {X : Type 0} (p : X → Bool) (xs : List X) → is_some (position p xs) ≡ list_any p xs
position-some p xs = ap is_some (position-from p xs) ∙ some-from p 0 xs

pub position-none : {X : Type 0} (p : X → Bool) (xs : List X) → list_any p xs ≡ false → position p xs ≡ None
position-none p xs fails = position-from p xs ∙ from-none p 0 xs fails

pub none-position : {X : Type 0} (p : X → Bool) (xs : List X) → position p xs ≡ None → list_any p xs ≡ false
none-position p xs none = none-from p 0 xs (sym (position-from p xs) ∙ none)

pub position-found : {X : Type 0} (p : X → Bool) (n : ℕ) (xs ys : List X) → position p xs ≡ Some n
    → position p (xs ++ ys) ≡ Some n
position-found p n xs ys is =
    position-from p (xs ++ ys) ∙ from-found p 0 n xs ys (sym (position-from p xs) ∙ is)

pub position-later : {X : Type 0} (p : X → Bool) (xs ys : List X) → position p xs ≡ None
    → position p (xs ++ ys) ≡ option_map (λ n. length xs + n) (position p ys)
position-later p xs ys none =
    let same : 0 + length xs ≡ length xs + 0 = omega arith in
    position-from p (xs ++ ys) ∙ from-later p 0 xs ys (sym (position-from p xs) ∙ none)
    ∙ ap (λ k. position_from p k ys) same ∙ from-shift p (length xs) 0 ys
    ∙ ap (option_map (λ n. length xs + n)) (sym (position-from p ys))

-- a directory begins with that of the opening
front : (xs ys : List Key) → (rest : List Key) × (distinct is_same_key (xs ++ ys) ≡ distinct is_same_key xs ++ rest)
front xs [] = ([], ap (distinct is_same_key) (append-nil xs) ∙ sym (append-nil (distinct is_same_key xs)))
front xs (y ∷ ys) =
    let more = front (xs ++ y ∷ []) ys in
    let added = added_key is_same_key (distinct is_same_key xs) y in (
      added ++ more.0,
      ap (distinct is_same_key) (sym (append_assoc xs (y ∷ []) ys)) ∙ more.1
          ∙ ap (λ ds. ds ++ more.0) (distinct-snoc is_same_key key_sound xs y)
          ∙ append_assoc (distinct is_same_key xs) added more.0,
    )

abbrev peer_keys : Node → ℕ → List Key
peer_keys node shard = map (key_of Peer) (peers_in node shard)

opening-is : (node : Node) (shard : ℕ) → directory node shard [] ≡ distinct is_same_key (peer_keys node shard)
opening-is node shard = ap (distinct is_same_key) (append-nil (peer_keys node shard))

pub brought-some : (node : Node) (shard : ℕ) (log : List Entry) → (keys : List Key) × AreBrought node shard log keys
brought-some node shard log =
    let more = front (peer_keys node shard) (flat_map (keys_in node shard) log) in
    (more.0, more.1 ∙ ap (λ ds. ds ++ more.0) (sym (opening-is node shard)))

-- nothing is brought by no entries
pub brought-nil : (node : Node) (shard : ℕ) → AreBrought node shard [] []
brought-nil node shard = sym (append-nil (directory node shard []))

-- what an entry brings is what it took in the shard
filter-by : (item : MachineItem) (items : List MachineItem) (keys : List Key) (b : Bool)
    → map (λ i. i.key) items ≡ keys → map (λ i. i.key) (cond b (item ∷ items) items) ≡ cond b (item.key ∷ keys) keys
filter-by item items keys true same = ap (λ ks. item.key ∷ ks) same
filter-by item items keys false same = same

filter-keys : (node : Node) (shard : ℕ) (items : List MachineItem)
    → map (λ item. item.key) (filter (is_for node shard) items)
    ≡ filter (λ k. nat_eq (home node.shards k.name) shard) (map (λ item. item.key) items)
filter-keys node shard [] = refl
filter-keys node shard (item ∷ items) =
    filter-by item (filter (is_for node shard) items)
    (filter (λ k. nat_eq (home node.shards k.name) shard) (map (λ (i : MachineItem). i.key) items))
    (nat_eq (home node.shards item.key.name) shard) (filter-keys node shard items)

pub keys-taken : (node : Node) (shard : ℕ) (e : Entry)
    → keys_in node shard e ≡ filter (λ k. nat_eq (home node.shards k.name) shard) (taken_key e)
keys-taken node shard e = filter-keys node shard (taken_in e)

-- a machine of which no item was handled, and which is none of a peer, is not there
any-filter : (key : Key) (p : Key → Bool) (ks : List Key) → list_any (is_key key) ks ≡ false
    → list_any (is_key key) (filter p ks) ≡ false
any-filter key p [] fails = refl
any-filter key p (k ∷ ks) fails =
    let both = or_parts (is_key key k) (list_any (is_key key) ks) fails in
    let rest = any-filter key p ks both.1 in
    elim (cases_Bool (p k)) [
      | inl is ↦
          ap (list_any (is_key key)) (cond-true (p k) (k ∷ filter p ks) (filter p ks) is)
          ∙ or_from (is_key key k) (list_any (is_key key) (filter p ks)) both.0 rest
      | inr is ↦ ap (list_any (is_key key)) (cond-false (p k) (k ∷ filter p ks) (filter p ks) is) ∙ rest
    ]

untaken : (node : Node) (shard : ℕ) (key : Key) (log : List Entry) → list_any (is_key key) (taken_keys log) ≡ false
    → list_any (is_key key) (flat_map (keys_in node shard) log) ≡ false
untaken node shard key [] fails = refl
untaken node shard key (e ∷ es) fails =
    let both = or_parts (list_any (is_key key) (taken_key e)) (list_any (is_key key) (taken_keys es))
    (sym (list_any-append (is_key key) (taken_key e) (taken_keys es)) ∙ fails) in
    let here = ap (list_any (is_key key)) (keys-taken node shard e)
    ∙ any-filter key (λ k. nat_eq (home node.shards k.name) shard) (taken_key e) both.0 in
    list_any-append (is_key key) (keys_in node shard e) (flat_map (keys_in node shard) es)
    ∙ or_from (list_any (is_key key) (keys_in node shard e))
    (list_any (is_key key) (flat_map (keys_in node shard) es)) here (untaken node shard key es both.1)

pub place-none : (node : Node) (shard : ℕ) (key : Key) (log : List Entry)
    → position (is_key key) (directory node shard []) ≡ None → list_any (is_key key) (taken_keys log) ≡ false
    → position (is_key key) (directory node shard log) ≡ None
place-none node shard key log none fails =
    let peers = peer_keys node shard in
    let no_peer : list_any (is_key key) peers ≡ false =
    sym (any-distinct is_same_key key_sound key peers) ∙ ap (list_any (is_key key)) (sym (opening-is node shard))
    ∙ none-position (is_key key) (directory node shard []) none in
    position-none (is_key key) (directory node shard log)
    (any-distinct is_same_key key_sound key (peers ++ flat_map (keys_in node shard) log)
    ∙ list_any-append (is_key key) peers (flat_map (keys_in node shard) log)
    ∙ or_from (list_any (is_key key) peers) (list_any (is_key key) (flat_map (keys_in node shard) log)) no_peer
    (untaken node shard key log fails))

-- whether a machine is one of a peer, or among these
some-map : (f : ℕ → ℕ) (o : Option ℕ) → is_some (option_map f o) ≡ is_some o
some-map f None = refl
some-map f (Some n) = refl

or-then : (a b both : Bool) → (a || b) ≡ both → a ≡ true → a ≡ both
or-then true b both is h = is
or-then false b both is h = absurd (false≢true h)

or-else : (a b both : Bool) → (a || b) ≡ both → a ≡ false → b ≡ both
or-else true b both is h = absurd (false≢true (sym h))
or-else false b both is h = is

known-is : (node : Node) (keys : List Key) (key : Key)
    → (is_some (number_of node [] key) || is_some (position (is_key key) keys))
    ≡ list_any (is_key key) (directory node (home node.shards key.name) [] ++ keys)
known-is node keys key =
    let first = directory node (home node.shards key.name) [] in
    ap (λ b. b || is_some (position (is_key key) keys))
    (some-map (number_at (home node.shards key.name)) (position (is_key key) first) ∙ position-some (is_key key) first)
    ∙ ap (λ b. list_any (is_key key) first || b) (position-some (is_key key) keys)
    ∙ sym (list_any-append (is_key key) first keys)

pub known-peer : (node : Node) (keys : List Key) (key : Key) (peer : Bool) → peer ≡ is_some (number_of node [] key)
    → peer ≡ true → peer ≡ list_any (is_key key) (directory node (home node.shards key.name) [] ++ keys)
known-peer node keys key peer is there =
    or-then peer (is_some (position (is_key key) keys)) _
    (ap (λ b. b || is_some (position (is_key key) keys)) is ∙ known-is node keys key) there

pub known-own : (node : Node) (keys : List Key) (key : Key) (peer own : Bool)
    → peer ≡ is_some (number_of node [] key) → own ≡ is_some (position (is_key key) keys) → peer ≡ false
    → own ≡ list_any (is_key key) (directory node (home node.shards key.name) [] ++ keys)
known-own node keys key peer own is own_is none =
    or-else peer own _
    (ap (λ b. b || own) is ∙ ap (λ b. is_some (number_of node [] key) || b) own_is ∙ known-is node keys key) none

-- one more entry, which takes nothing in the shard
pub brings-none : (node : Node) (shard : ℕ) (keys : List Key) (log : List Entry) (e : Entry)
    → keys_in node shard e ≡ [] → AreBrought node shard log keys → AreBrought node shard (log ++ e ∷ []) keys
brings-none node shard keys log e none are = directory-same node shard log e none ∙ are

-- a machine of another shard
pub brings-other : (node : Node) (shard : ℕ) (keys : List Key) (key : Key)
    → nat_eq (home node.shards key.name) shard ≡ false → BringsKeys node shard keys (key ∷ []) keys
brings-other node shard keys key apart = λ log e is are.
    brings-none node shard keys log e
    (is ∙ cond-false (nat_eq (home node.shards key.name) shard) (key ∷ []) [] apart) are

-- one that is there already
pub brings-there : (node : Node) (shard : ℕ) (keys : List Key) (key : Key)
    → nat_eq (home node.shards key.name) shard ≡ true
    → list_any (is_key key) (directory node shard [] ++ keys) ≡ true → BringsKeys node shard keys (key ∷ []) keys
brings-there node shard keys key own there = λ log e is are.
    let one = is ∙ cond-true (nat_eq (home node.shards key.name) shard) (key ∷ []) [] own in
    let known : list_any (is_key key) (directory node shard log) ≡ true = ap (list_any (is_key key)) are ∙ there in
    directory-more node shard log e key one
    ∙ ap (λ ks. directory node shard log ++ ks)
    (cond-true (list_any (is_key key) (directory node shard log)) [] (key ∷ []) known)
    ∙ append-nil (directory node shard log) ∙ are

-- and one that is new
pub brings-new : (node : Node) (shard : ℕ) (keys : List Key) (key : Key)
    → nat_eq (home node.shards key.name) shard ≡ true
    → list_any (is_key key) (directory node shard [] ++ keys) ≡ false
    → BringsKeys node shard keys (key ∷ []) (keys ++ key ∷ [])
brings-new node shard keys key own new = λ log e is are.
    let one = is ∙ cond-true (nat_eq (home node.shards key.name) shard) (key ∷ []) [] own in
    let unknown : list_any (is_key key) (directory node shard log) ≡ false = ap (list_any (is_key key)) are ∙ new in
    directory-more node shard log e key one
    ∙ ap (λ ks. directory node shard log ++ ks)
    (cond-false (list_any (is_key key) (directory node shard log)) [] (key ∷ []) unknown)
    ∙ ap (λ ks. ks ++ key ∷ []) are ∙ append_assoc (directory node shard []) keys (key ∷ [])
