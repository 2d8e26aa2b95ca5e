-- What the shards of a world are when it is opened.
use Rattle.std.specs.Prelude.{◌≡◌, ◌<◌, ℕ, List, [], map}
use Rattle.std.specs.List.{range_with_len}
use Rattle.bench_item.specs.Keys.{Configured, peers_of}
use Rattle.bench_shard.specs.Stands.{Stands}
use Rattle.bench_shard.specs.View.{ShardView, opened}
use Rattle.bench_spec.specs.Settings.{Settings}

-- the shards of a node with these peers
abbrev pub shards_at_start : Configured → ℕ → List ShardView
shards_at_start peers count = map (λ number. opened number peers) (range_with_len 0 count)

-- each of them is what a log without entries says
abbrev pub AreStanding : Configured → ℕ → Type 0
AreStanding peers count =
    (settings : Settings) (number : ℕ) → number < count
    → peers ≡ peers_of settings.node → Stands settings [] (opened number peers)
