use Rattle.std.proofs.Common.{◌≡◌, length, take}
use Rattle.bench_shard.specs.View.{peer_names, starts}
use Rattle.bench_shard.proofs.open.add_peers.Given as goal

-- the peers so far have their machines, each at its start
abbrev pub invariant-loop-host : goal.invariant-loop-host
invariant-loop-host l = record {
  names : l.names ≡ peer_names l.shards l.number (take l.host-index l.hosts);
  states : l.states.items ≡ starts l.number (length l.names);
}
