use Rattle.std.proofs.Common.{◌≡◌, ◌++◌, take, flat_map}
use Rattle.node_logs.specs.Logs.{file_octet}
use Rattle.node_logs.proofs.text.put_file_host.Given as goal

-- the octets so far were put
abbrev pub invariant-loop-octet : goal.invariant-loop-octet
invariant-loop-octet l = l.out.items ≡ l.initial.out.items ++ flat_map file_octet (take l.octet-index l.host)
