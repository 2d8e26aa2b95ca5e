use Rattle.std.proofs.Common.{◌≡◌, take}
use Rattle.bench_item.proofs.peers.Peers.copy.Given as goal

-- the hosts so far
abbrev pub invariant-loop-host : goal.invariant-loop-host
invariant-loop-host l = l.hosts.items ≡ take l.host-index l.self.hosts
