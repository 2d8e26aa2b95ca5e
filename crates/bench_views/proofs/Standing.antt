-- Where the machines of a shard stand, with one more entry.
use Rattle.std.proofs.Common.{◌≡◌, ◌+◌, ℕ, List, [], ◌∷◌, ◌++◌, Bool, true, false, refl, sym, ◌∙◌, ap}
use Rattle.std.specs.Prelude.{map, ◌||◌, if◌then◌else◌}
use Rattle.std.specs.List.{list_any, AllByRecursion as Each}
use Rattle.std.proofs.lemmas.Bool.{false≢true}
use Rattle.tab_step.specs.declared.machine.MachineState.{MachineState}
use Rattle.bench_item.specs.declared.entry.Entry.{Entry}
use Rattle.bench_item.specs.declared.key.Key.{Key}
use Rattle.bench_item.specs.Keys.{Node, home, is_same_key}
use Rattle.bench_spec.specs.Machines.{directory, keys_in, moves_in, state_at}
use Rattle.bench_spec.proofs.RunLemmas.{key_itself, key_sound}
use Rattle.bench_views.proofs.Distinct.{AreApart, Each-weaker, with_new}
use Rattle.bench_views.proofs.Directories.{IsHome, directory-new, directory-same, directory_apart, directory_home, number_for-other, number_for-same, state_at-same}

-- the values of items with another one for that item; it comes behind all where the item is not there
abbrev pub put_for : {X Y : Type 0} → (X → X → Bool) → X → Y → List X → List Y → List Y
put_for is_same k v [] ys = v ∷ []
put_for is_same k v (x ∷ xs) [] = []
put_for is_same k v (x ∷ xs) (y ∷ ys) = if is_same x k then v ∷ ys else y ∷ put_for is_same k v xs ys

-- two functions with the same values at each item
map-same : {X Y : Type 0} (f g : X → Y) (xs : List X) → Each (λ x. f x ≡ g x) xs → map f xs ≡ map g xs
map-same f g [] h = refl
map-same f g (x ∷ xs) h = ap (λ y. y ∷ map f xs) h.0 ∙ ap (λ ys. g x ∷ ys) (map-same f g xs h.1)

Each-apply : {X : Type 0} (P Q : X → Type 0) (xs : List X) → Each P xs → Each (λ x. P x → Q x) xs → Each Q xs
Each-apply P Q [] h k = tt
Each-apply P Q (x ∷ xs) h k = (k.0 h.0, Each-apply P Q xs h.1 k.1)

true≢false : (b : Bool) → b ≡ true → b ≡ false → ⊥
true≢false b t f = false≢true (sym f ∙ t)

-- values of distinct items, by a function that differs from the one before at one item alone
pub map-put : {X Y : Type 0} (is_same : X → X → Bool) (sound : (x y : X) → is_same x y ≡ true → x ≡ y) (f g : X → Y) (k : X) (xs : List X) → AreApart is_same xs → Each (λ x. is_same x k ≡ false → g x ≡ f x) xs → is_same k k ≡ true → map g (with_new is_same k xs) ≡ put_for is_same k (g k) xs (map f xs)
map-put is_same sound f g k [] apart others itself = refl
map-put {X} {Y} is_same sound f g k (x ∷ xs) apart others itself = by (map-put is_same sound f g k xs apart.1 others.1 itself) (is_same x k) refl
  where
    none_else : x ≡ k → map g xs ≡ map f xs
    none_else same =
        map-same g f xs
        (Each-apply (λ y. is_same x y ≡ false) (λ y. g y ≡ f y) xs apart.0
        (Each-weaker (λ y. is_same y k ≡ false → g y ≡ f y) (λ y. is_same x y ≡ false → g y ≡ f y) (λ y h differs. h (backwards y differs)) xs others.1))
      where
        backwards : (y : X) → is_same x y ≡ false → is_same y k ≡ false
        backwards y differs = by_test (is_same y k) refl
          where
            by_test : (b : Bool) → is_same y k ≡ b → b ≡ false
            by_test true is = absurd (true≢false (is_same x y) (ap (is_same x) (sound y k is ∙ sym same) ∙ ap (λ z. is_same z x) same ∙ ap (is_same k) same ∙ itself) differs)
            by_test false is = refl

    rest_of : (b c : Bool) → is_same x k ≡ b → b ≡ false → list_any (λ y. is_same y k) xs ≡ c → with_new is_same k (x ∷ xs) ≡ x ∷ with_new is_same k xs
    rest_of b true apart_is b_is there = rw (there, apart_is ∙ b_is) refl
    rest_of b false apart_is b_is there = rw (there, apart_is ∙ b_is) refl

    by : (map g (with_new is_same k xs) ≡ put_for is_same k (g k) xs (map f xs)) → (b : Bool) → is_same x k ≡ b → map g (with_new is_same k (x ∷ xs)) ≡ put_for is_same k (g k) (x ∷ xs) (map f (x ∷ xs))
    by later true is = rw (is) (ap (λ y. y ∷ map g xs) (ap g (sound x k is)) ∙ ap (λ ys. g k ∷ ys) (none_else (sound x k is)))
    by later false is =
        ap (map g) (rest_of (is_same x k) (list_any (λ y. is_same y k) xs) refl is refl)
        ∙ ap (λ y. y ∷ map g (with_new is_same k xs)) (others.0 is)
        ∙ ap (λ ys. f x ∷ ys) later
        ∙ rw is refl

-- where all machines of a shard stand
abbrev pub states_of : Node → ℕ → List Entry → List MachineState
states_of node shard log = map (state_at node log) (directory node shard log)

-- an entry that brings none of the shard's machines, and moves none
pub states-same : (node : Node) (shard : ℕ) (log : List Entry) (e : Entry) → keys_in node shard e ≡ [] → ((key : Key) → home node.shards key.name ≡ shard → moves_in key e ≡ []) → states_of node shard (log ++ e ∷ []) ≡ states_of node shard log
states-same node shard log e none still =
    ap (map (state_at node (log ++ e ∷ []))) (directory-same node shard log e none)
    ∙ map-same (state_at node (log ++ e ∷ [])) (state_at node log) (directory node shard log)
    (Each-weaker (IsHome node shard) (λ key. state_at node (log ++ e ∷ []) key ≡ state_at node log key) stays (directory node shard log) (directory_home node shard log))
  where
    stays : (key : Key) → IsHome node shard key → state_at node (log ++ e ∷ []) key ≡ state_at node log key
    stays key here =
        state_at-same node log e key (number_for-same node log e key (ap (λ s. keys_in node s e) here ∙ none)) (still key here)

-- each item of a list is in it
or_right : (b c : Bool) → c ≡ true → (b || c) ≡ true
or_right true c h = refl
or_right false c h = h

each_there : {X : Type 0} (is_same : X → X → Bool) (itself : (x : X) → is_same x x ≡ true) (xs : List X) → Each (λ k. list_any (λ y. is_same y k) xs ≡ true) xs
each_there is_same itself [] = tt
each_there is_same itself (x ∷ xs) = (
  ap (λ b. b || list_any (λ y. is_same y x) xs) (itself x),
  Each-weaker (λ k. list_any (λ y. is_same y k) xs ≡ true) (λ k. list_any (λ y. is_same y k) (x ∷ xs) ≡ true) (λ k h. or_right (is_same x k) (list_any (λ y. is_same y k) xs) h) xs (each_there is_same itself xs),
)

Each-both : {X : Type 0} (P Q R : X → Type 0) → ((x : X) → P x → Q x → R x) → (xs : List X) → Each P xs → Each Q xs → Each R xs
Each-both P Q R f [] h k = tt
Each-both P Q R f (x ∷ xs) h k = (f x h.0 k.0, Each-both P Q R f xs h.1 k.1)

-- an entry that brings that machine of the shard, and moves no other
pub states-put : (node : Node) (shard : ℕ) (log : List Entry) (e : Entry) (key : Key) → home node.shards key.name ≡ shard → keys_in node shard e ≡ key ∷ [] → ((other : Key) → home node.shards other.name ≡ shard → is_same_key other key ≡ false → moves_in other e ≡ []) → states_of node shard (log ++ e ∷ []) ≡ put_for is_same_key key (state_at node (log ++ e ∷ []) key) (directory node shard log) (states_of node shard log)
states-put node shard log e key here one still =
    ap (map (state_at node (log ++ e ∷ []))) (directory-new node shard log e key one)
    ∙ map-put is_same_key key_sound (state_at node log) (state_at node (log ++ e ∷ [])) key (directory node shard log) (directory_apart node shard log) others (key_itself key)
  where
    others : Each (λ other. is_same_key other key ≡ false → state_at node (log ++ e ∷ []) other ≡ state_at node log other) (directory node shard log)
    others =
        Each-both (IsHome node shard) (λ k. list_any (λ y. is_same_key y k) (directory node shard log) ≡ true) (λ k. is_same_key k key ≡ false → state_at node (log ++ e ∷ []) k ≡ state_at node log k)
        (λ k home_is there differs. state_at-same node log e k (number_for-other node log e key k (ap (λ s. keys_in node s e) home_is ∙ one) (ap (λ s. list_any (λ y. is_same_key y k) (directory node s log)) home_is ∙ there)) (still k home_is differs))
        (directory node shard log) (directory_home node shard log) (each_there is_same_key key_itself (directory node shard log))
