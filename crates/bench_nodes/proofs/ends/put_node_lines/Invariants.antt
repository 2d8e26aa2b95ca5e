use Rattle.std.proofs.Common.{◌≡◌, ◌++◌, take}
use Rattle.bench_nodes.specs.Told.{lines_told}
use Rattle.bench_nodes.proofs.ends.put_node_lines.Given as goal

-- the nodes so far were put
abbrev pub invariant-nodes : goal.invariant-nodes
invariant-nodes l = l.out.items ≡ l.initial.out.items ++ lines_told (take l.node-index l.nodes)
