use Rattle.std.proofs.Common.{◌≡◌, take}
use Rattle.bench_start.proofs.peers.open_peers.Given as goal

abbrev pub invariant-loop-host : goal.invariant-loop-host
invariant-loop-host l = l.peers ≡ record { hosts = take l.host-index l.hosts; shards = l.shards }
