-- What a timer fires, by the shards that a world keeps.
use Rattle.std.specs.Prelude.{ℕ, List, Option, flat_map, option_map, option_to_list, slice_get}
use Rattle.std.specs.Option.{option_and_then}
use Rattle.bench_item.specs.Keys.{Node, place_of, shard_of}
use Rattle.bench_item.specs.declared.item.Item.{Item}
use Rattle.bench_item.specs.declared.key.Key.{Key}
use Rattle.bench_shard.specs.Names.{key_in}
use Rattle.bench_shard.specs.View.{ShardView}
use Rattle.bench_spec.specs.Items.{firing}

-- the machine of a number, if it is there
abbrev pub numbered : List ShardView → ℕ → Option Key
numbered shards machine = option_and_then (λ v. option_map key_in (slice_get v.names (place_of machine)))
    (slice_get shards (shard_of machine))

-- what a timer that was armed with a generation fires at it
abbrev pub fired : Node → List ShardView → ℕ → ℕ → List Item
fired node shards machine generation = flat_map (firing node generation) (option_to_list (numbered shards machine))
