use Rattle.std.proofs.Common.{◌≡◌}
use Rattle.std.specs.Arc.{arc_value}
use Rattle.live_open.specs.Opening.{shards_at_start}
use Rattle.live_open.proofs.parts.open_shards.Given as goal

-- the part of each shard so far
abbrev pub invariant-loop-number : goal.invariant-loop-number
invariant-loop-number l = l.parts.items ≡ shards_at_start (arc_value l.roles) l.peers l.number
