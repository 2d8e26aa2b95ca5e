use Rattle.std.proofs.Common.{◌≡◌, take, flat_map}
use Rattle.bench_nodes.specs.Printed.{taken_text}
use Rattle.node_logs.proofs.text.log_text.Given as goal

-- the entries so far were put
abbrev pub invariant-places : goal.invariant-places
invariant-places l = l.out.items ≡ flat_map (taken_text l.core) (take l.place l.core.log)
