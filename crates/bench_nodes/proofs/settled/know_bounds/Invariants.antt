use Rattle.std.proofs.Common.{◌≤◌, length, take}
use Rattle.std.specs.List.{AllByRecursion as Each}
use Rattle.bench_item.specs.declared.limit.TheConstants.{MAX_ENTRIES}
use Rattle.bench_nodes.proofs.settled.know_bounds.Given as goal

-- of the nodes so far it is known
abbrev pub invariant-nodes : goal.invariant-nodes
invariant-nodes l = Each (λ node. length node.core.log ≤ MAX_ENTRIES) (take l.node-index l.nodes)
