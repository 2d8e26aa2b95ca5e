use Rattle.std.proofs.Common.{◌≡◌, take}
use Rattle.bench_copy.proofs.config.copy_hosts.Given as goal

-- the hosts so far were copied
abbrev pub invariant-loop-host : goal.invariant-loop-host
invariant-loop-host l = l.copies.items ≡ take l.host-index l.hosts
