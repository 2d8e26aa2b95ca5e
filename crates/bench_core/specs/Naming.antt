-- The names that a world lends.
use Rattle.std.specs.Prelude.{ℕ, List, flat_map, map}
use Rattle.std.specs.List.{enumerate_from}
use Rattle.bench_item.specs.Keys.{number_at}
use Rattle.bench_item.specs.declared.key.Key.{Key}
use Rattle.bench_item.specs.declared.key.Role.{Role}
use Rattle.bench_move.specs.Tables.{table_of}
use Rattle.bench_shard.specs.Names.{key_in}
use Rattle.bench_shard.specs.View.{ShardView}
use Rattle.bench_core.specs.declared.names.LentNames.{LentNames}

-- those of the kinds of events, and of the states of a role's table
abbrev pub kinds_lent : LentNames → List (List ℕ)
kinds_lent names = map (λ kind. kind.name) names.roles.now.laws.kinds

abbrev pub states_lent : LentNames → Role → List (List ℕ)
states_lent names role = (table_of names.roles.now role).states

-- the machines of the shard of that number, each with its own
abbrev pub machines_named : ℕ → List (List ℕ) → List (Key × ℕ)
machines_named shard names = map (λ placed. (key_in placed.1, number_at shard placed.0)) (enumerate_from 0 names)

-- those of all shards
abbrev pub all_named : List ShardView → List (Key × ℕ)
all_named shards = flat_map (λ placed. machines_named placed.0 placed.1.names) (enumerate_from 0 shards)

abbrev pub machines_lent : LentNames → List (Key × ℕ)
machines_lent names = all_named names.shards.now
