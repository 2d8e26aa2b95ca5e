use Rattle.std.proofs.Common.{◌≡◌, map, take}
use Rattle.config_text.specs.Configs.{host_of}
use Rattle.config_text.proofs.config.hosts_of.Given as goal

-- the hosts so far
abbrev pub invariant-loop-peer : goal.invariant-loop-peer
invariant-loop-peer l = l.hosts.items ≡ map host_of (take l.peer-index l.peers)
