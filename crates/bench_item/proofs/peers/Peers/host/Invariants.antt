use Rattle.std.proofs.Common.{◌≡◌, drop}
use Rattle.std.specs.List.{slice_get}
use Rattle.bench_item.specs.Keys.{in_shard, numbered}
use Rattle.bench_item.proofs.peers.Peers.host.Given as goal

-- the host that is wanted stands among those that are left, behind as many of its shard
abbrev pub invariant-loop-place : goal.invariant-loop-place
invariant-loop-place l = slice_get (in_shard l.self.shards l.shard (drop l.place l.self.hosts)) l.before ≡ numbered l.fn.self l.fn.number
