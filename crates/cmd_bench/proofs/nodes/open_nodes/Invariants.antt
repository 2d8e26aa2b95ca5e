use Rattle.std.proofs.Common.{◌≡◌, ◌++◌, List, map}
use Rattle.bench_setup.specs.declared.setups.Setup.{Setup}
use Rattle.cmd_bench.specs.Nodes.{AreOpenNodes}
use Rattle.cmd_bench.proofs.nodes.open_nodes.Given as goal

-- the nodes that are not left were opened
abbrev pub invariant-setups : goal.invariant-setups
invariant-setups g l =
    (done : List Setup) × (done ++ l.left.rest.items ≡ l.fn.setups.items) × AreOpenNodes (map (λ r. r.book) l.registries) done l.nodes.items

-- each turn takes a node
abbrev pub decreases-setups : goal.decreases-setups
decreases-setups g l = l.left.rest.len
