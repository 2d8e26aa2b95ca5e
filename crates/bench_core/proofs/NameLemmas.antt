-- The machines that are named are those of the log.
use Rattle.std.proofs.Common.{◌≡◌, ◌+◌, ℕ, zero, suc, List, [], ◌∷◌, ◌++◌, length, Some, refl, sym, ap, ◌∙◌, arith, subst}
use Rattle.std.specs.Prelude.{flat_map, map, slice_get}
use Rattle.std.specs.List.{enumerate_from, range_with_len}
use Rattle.bench_item.specs.Keys.{number_at}
use Rattle.bench_item.specs.declared.key.Key.{Key}
use Rattle.bench_item.specs.declared.key.Role.{Role}
use Rattle.bench_item.specs.declared.key.Role.TheVariants.{Client, Peer, Server}
use Rattle.bench_move.specs.Tables as move
use Rattle.bench_shard.specs.Names.{key_in, key_octets}
use Rattle.bench_shard.specs.View.{ShardView}
use Rattle.bench_spec.specs.Machines.{directory}
use Rattle.bench_spec.specs.Settings.{table_of}
use Rattle.bench_spec.specs.World.{machines_in}
use Rattle.bench_core.specs.Inside.{IsSound, settings_in}
use Rattle.bench_core.specs.Naming.{all_named, machines_named}
use Rattle.bench_core.specs.declared.keeping.Core.TheInside.{Inside}
use Rattle.bench_core.proofs.FireLemmas.{key-back}

-- the table of a role is that of the settings
pub table-same : (w : Inside) (role : Role) → move.table_of w.roles role ≡ table_of (settings_in w) role
table-same w Peer = refl
table-same w Client = refl
table-same w Server = refl

-- keys, each with the number of its place, by their octets and by themselves
by_octets : ℕ → ℕ × List ℕ → Key × ℕ
by_octets shard placed = (key_in placed.1, number_at shard placed.0)

by_key : ℕ → ℕ × Key → Key × ℕ
by_key shard placed = (placed.1, number_at shard placed.0)

named-keys : (shard i : ℕ) (keys : List Key) → map (by_octets shard) (enumerate_from i (map key_octets keys)) ≡ map (by_key shard) (enumerate_from i keys)
unfolding by_octets by_key
named-keys shard i [] = refl
named-keys shard i (key ∷ keys) =
    ap (λ (k : Key). (k, number_at shard i) ∷ map (by_octets shard) (enumerate_from (i + 1) (map key_octets keys))) (key-back key)
    ∙ ap (λ (rest : List (Key × ℕ)). (key, number_at shard i) ∷ rest) (named-keys shard (i + 1) keys)

-- what each place of a list gives, where it is what its number gives
flat_map-places : {X Y : Type 0} (f : ℕ × X → List Y) (g : ℕ → List Y) (i n : ℕ) (xs : List X) → length xs ≡ n
    → ((k : ℕ) (x : X) → slice_get xs k ≡ Some x → f (i + k, x) ≡ g (i + k)) → flat_map f (enumerate_from i xs) ≡ flat_map g (range_with_len i n)
flat_map-places f g i zero [] size each = refl
flat_map-places f g i (suc n) [] size each = absurd (omega (arith, size))
flat_map-places f g i zero (x ∷ xs) size each = absurd (omega (arith, size))
flat_map-places {X = X} {Y = Y} f g i (suc n) (x ∷ xs) size each =
    let none : i + 0 ≡ i = omega arith in
    let here : f (i, x) ≡ g i = ap (λ (m : ℕ). f (m, x)) (sym none) ∙ each 0 x refl ∙ ap g none in
    let rest : flat_map f (enumerate_from (i + 1) xs) ≡ flat_map g (range_with_len (i + 1) n) =
    flat_map-places f g (i + 1) n xs (omega (arith, size)) (λ k y there.
    let next : i + 1 + k ≡ i + suc k = omega arith in
    ap (λ (m : ℕ). f (m, y)) next ∙ each (suc k) y there ∙ ap g (omega arith)) in
    ap (λ (ys : List Y). ys ++ flat_map f (enumerate_from (i + 1) xs)) here ∙ ap (λ (ys : List Y). g i ++ ys) rest

-- the machines that the shards name
pub named-log : (w : Inside) → IsSound w
    → all_named w.shards.items ≡ flat_map (machines_in (settings_in w).node w.log.entries) (range_with_len 0 (settings_in w).node.shards)
unfolding by_octets by_key
named-log w sound =
    flat_map-places (λ (placed : ℕ × ShardView). machines_named placed.0 placed.1.names) (machines_in (settings_in w).node w.log.entries) 0
    (settings_in w).node.shards w.shards.items sound.whole.tied.shard_count (λ k v there.
    let is = sound.whole.tied.shards k v there in
    let none : 0 + k ≡ k = omega arith in
    subst (λ (n : ℕ). machines_named n v.names ≡ machines_in (settings_in w).node w.log.entries n) (sym none)
    (ap (machines_named k) (is.1.names ∙ ap (λ (n : ℕ). map key_octets (directory (settings_in w).node n w.log.entries)) is.0)
    ∙ named-keys k 0 (directory (settings_in w).node k w.log.entries)))
