use Rattle.std.proofs.Common.{◌≡◌, ◌++◌, take}
use Rattle.bench_nodes.specs.Told.{totals_told}
use Rattle.bench_nodes.proofs.ends.put_node_totals.Given as goal

-- the nodes so far were put
abbrev pub invariant-nodes : goal.invariant-nodes
invariant-nodes l = l.out.items ≡ l.initial.out.items ++ totals_told (take l.node-index l.nodes)
